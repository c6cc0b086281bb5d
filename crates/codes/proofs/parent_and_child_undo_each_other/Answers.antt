-- The laws of proofs/Calls.
-- Assumes nothing.
use Rattle.codes.proofs.Calls.{parent_of_child, child_of_parent}
use Rattle.codes.proofs.parent_and_child_undo_each_other.Goals as goal

pub returns : goal.returns
returns c = record {
  parent_of_child = parent_of_child;
  child_of_parent = child_of_parent;
}
