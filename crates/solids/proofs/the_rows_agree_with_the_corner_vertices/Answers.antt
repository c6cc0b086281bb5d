-- The theorem of proofs/Seams.
-- Assumes nothing.
use Rattle.solids.proofs.Seams.{every_seam}
use Rattle.solids.proofs.the_rows_agree_with_the_corner_vertices.Goals as goal

pub returns : goal.returns
returns c = every_seam
