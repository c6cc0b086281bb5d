-- The theorem of proofs/Parents.
-- Assumes nothing.
use Rattle.geometry.proofs.Parents.{parent_across}
use Rattle.geometry.proofs.the_parent_steps_along.Goals as goal

pub returns : goal.returns
returns c = parent_across
