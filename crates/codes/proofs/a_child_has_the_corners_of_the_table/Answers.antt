-- The law of proofs/Calls.
-- Assumes nothing.
use Rattle.codes.proofs.Calls.{corner-child}
use Rattle.codes.proofs.a_child_has_the_corners_of_the_table.Goals as goal

pub returns : goal.returns
returns c = corner-child
