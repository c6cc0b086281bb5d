-- Both calls have one promise, which leaves one number.
use borrow.Author.Tests.{eq-eqb}
use Rattle.steps.specs.Stepped.{Stepped}
use Rattle.steps.proofs.Stepped.{stepped_single}
use Rattle.urdinhosa.proofs.Exports.{gives_single}
use Rattle.urdinhosa.proofs.methods_agree.Goals as goal

pub returns : goal.returns
returns c =
    let a = c.args in
    let m = c.urdinhosa_step in
    let n = c.urdinhosa_walk in
    eq-eqb m.result n.result (gives_single (Stepped a.code a.direction) (stepped_single a.code a.direction) m.result n.result m.ensures n.ensures)
