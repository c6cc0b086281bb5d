-- The shift puts the digit in its place, and no sum wraps.
use mathlib.Core.Path.{ap, sym, ◌∙◌, subst}
use Prim.Native.Nat.{◌<◌}
use native.Mathlib.Omega.{arith}
use Rattle.codes.specs.Codes.{depth, IsCode}
use Rattle.codes.proofs.Family.{child_bits, child_formed}
use Rattle.codes.proofs.Code.child.Goals as goal

pub overflow_add-result : goal.overflow_add-result
overflow_add-result c =
    let e = c.depth.ensures.depth ∙ ap depth (sym c.self.view_is) in
    rw c.number.ensures (omega (arith, (child_bits c.self.inside.bits c.depth.result c.args.digit c.self.invariant e (omega (arith, c.requires))).1))

pub overflow_add-result-2 : goal.overflow_add-result-2
overflow_add-result-2 c =
    let e = c.depth.ensures.depth ∙ ap depth (sym c.self.view_is) in
    rw c.number.ensures (omega (arith, (child_bits c.self.inside.bits c.depth.result c.args.digit c.self.invariant e (omega (arith, c.requires))).1))

pub invariant_of-result : goal.invariant_of-result
invariant_of-result c =
    let x = c.self.inside.bits in
    let e = c.depth.ensures.depth ∙ ap depth (sym c.self.view_is) in
    let h : depth x < 26 = rw c.self.view_is c.requires in
    rw c.number.ensures
    (subst IsCode (sym (child_bits x c.depth.result c.args.digit c.self.invariant e (omega arith)).0)
    (child_formed x c.args.digit c.self.invariant h))

pub returns : goal.returns
returns c =
    let e = c.depth.ensures.depth ∙ ap depth (sym c.self.view_is) in
    rw (← c.self.view_is, c.number.ensures) (child_bits c.self.inside.bits c.depth.result c.args.digit c.self.invariant e (omega (arith, c.requires))).0
