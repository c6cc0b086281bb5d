-- The shifts cut off the last digit and the depth.
use mathlib.Core.Path.{ap, sym, ◌∙◌, subst}
use Prim.Native.Nat.{◌<◌}
use native.Mathlib.Omega.{arith}
use Rattle.codes.specs.Codes.{depth, IsCode}
use Rattle.codes.proofs.Family.{parent_bits, parent_formed}
use Rattle.codes.proofs.Code.parent.Goals as goal

pub invariant_of-result : goal.invariant_of-result
invariant_of-result c =
    let x = c.self.inside.bits in
    let e = c.depth-depth.ensures.depth ∙ ap depth (sym c.self.view_is) in
    let h : 0 < depth x = rw c.self.view_is c.requires in
    subst IsCode (sym (parent_bits x c.depth-depth.result c.self.invariant e (omega arith))) (parent_formed x c.self.invariant h)

pub returns : goal.returns
returns c =
    let e = c.depth-depth.ensures.depth ∙ ap depth (sym c.self.view_is) in
    rw (← c.self.view_is) (parent_bits c.self.inside.bits c.depth-depth.result c.self.invariant e (omega (arith, c.requires)))
