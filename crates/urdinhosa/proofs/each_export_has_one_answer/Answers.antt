-- One reply, by the law of the step, is one number.
use Rattle.steps.specs.Stepped.{Stepped}
use Rattle.steps.proofs.Stepped.{stepped_single}
use Rattle.urdinhosa.proofs.Exports.{gives_single}
use Rattle.urdinhosa.proofs.each_export_has_one_answer.Goals as goal

pub returns-clause-stepped : goal.returns-clause-stepped
returns-clause-stepped c = λ x s. gives_single (Stepped x s) (stepped_single x s)
