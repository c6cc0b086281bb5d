-- The laws of proofs/Codes.
-- Assumes nothing.
use Rattle.codes.proofs.Codes.{code_formed, cell_of-code_of, cell_formed, depth_of-cell_of, code_of-cell_of}
use Rattle.codes.proofs.codes_and_cells_are_one_and_the_same.Goals as goal

pub returns : goal.returns
returns c = record {
  code = code_formed;
  cell_again = cell_of-code_of;
  cell = cell_formed;
  same_depth = depth_of-cell_of;
  code_again = code_of-cell_of;
}
