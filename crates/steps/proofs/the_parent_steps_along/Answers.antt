-- The law of proofs/Laws.
use Rattle.steps.proofs.Laws.{parent_along}
use Rattle.steps.proofs.the_parent_steps_along.Goals as goal

pub returns : goal.returns
returns c = parent_along
