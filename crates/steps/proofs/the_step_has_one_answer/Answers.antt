-- The law of proofs/Stepped.
use Rattle.steps.proofs.Stepped.{stepped_single}
use Rattle.steps.proofs.the_step_has_one_answer.Goals as goal

pub returns : goal.returns
returns c = stepped_single
