-- Each turn goes one level down.
use mathlib.Core.Path.{refl, ap, ◌∙◌}
use Prim.Native.Nat.{◌+◌, ◌^◌, ◌<◌, ◌≤◌}
use native.Mathlib.Omega.{arith}
use Rattle.geometry.specs.Corners.{Digit}
use Rattle.geometry.specs.Paths.{digit_no, number}
use Rattle.geometry.proofs.Paths.{digit<4}
use Rattle.points.specs.Points.{weights, down, path_to}
use Rattle.points.proofs.Loop.{small, again}
use Rattle.points.proofs.Weights.descend.Goals as goal
use Rattle.points.proofs.Weights.descend.Goals.{At-loop}

pub loop-init : goal.loop-init
unfolding down path_to number
loop-init c = record { here = refl; digits = refl }

bound : (b : At-loop) → (b.loop.rest.t + b.loop.rest.l + b.loop.rest.r ≤ 2 ^ 26) × (b.loop.path < 4 ^ b.loop.counter) × (4 ^ b.loop.counter ≤ 4 ^ 26)
bound b =
    let w = b.args.self in
    let l = b.loop in
    small (weights w.t w.l w.r) b.requires.whole l.counter l.rest.t l.rest.l l.rest.r l.path (omega arith) l.invariant

pub lowered-next-requires : goal.lowered-next-requires
lowered-next-requires c = (bound (goal.at.lowered-next-requires c).At-loop).0

pub overflow_mul-path : goal.overflow_mul-path
overflow_mul-path c = omega (arith, bound (goal.at.overflow_mul-path c).At-loop)

pub overflow_add-path : goal.overflow_add-path
overflow_add-path c = omega (arith, bound (goal.at.overflow_add-path c).At-loop, c.number.ensures, digit<4 c.lowered-next.result.digit)

pub loop-preserved : goal.loop-preserved
loop-preserved c =
    let w = c.args.self in
    let l = c.loop in
    let r = c.lowered-next.result.rest in
    again (weights w.t w.l w.r) l.counter l.rest.t l.rest.l l.rest.r l.path c.number.result r.t r.l r.r l.invariant
    (c.number.ensures ∙ ap (λ (d : Digit). digit_no d) c.lowered-next.ensures.digit) c.lowered-next.ensures.rest
