-- The law of proofs/Calls.
-- Assumes nothing.
use Rattle.codes.proofs.Calls.{ancestor_before}
use Rattle.codes.proofs.an_ancestor_comes_before_its_descendants.Goals as goal

pub returns : goal.returns
returns c = ancestor_before
