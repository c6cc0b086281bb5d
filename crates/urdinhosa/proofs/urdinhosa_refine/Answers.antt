-- The number and the leaf in the way are those of the reply.
use mathlib.Core.Path.{sym, subst}
use Rattle.refusals.specs.Answers.{Reply}
use Rattle.examine.specs.Examined.{whole_of}
use Rattle.mesh.specs.Answers.{outcome}
use Rattle.mesh.specs.Calls.{Refined}
use Rattle.urdinhosa.proofs.urdinhosa_refine.Goals as goal

pub returns : goal.returns
returns c =
    let a = c.args in
    let xs = a.slots.now in
    subst (λ (r : Reply). Refined (whole_of xs) xs a.leaf (outcome r c.refine.new.slots)) (sym c.number_and_blocker.ensures) c.refine.ensures
