-- A point's weights in a child, as weights in its parent.
--
--   lift d w      == weights in child d, lifted to the parent: no subtraction, so the way up is plain sums
--   lift_all ds w == weights in the cell that the path ds leads to, lifted all the way up
--
use mathlib.Core.List.{List, [], ◌∷◌}
use mathlib.Core.Path.{◌≡◌, ap, ◌∙◌}
use Prim.Native.Nat.{ℕ, ◌+◌}
use native.Mathlib.Omega.{arith}
use Rattle.geometry.specs.Corners.{Digit, d00, d01, d10, d11}
use Rattle.points.specs.Points.{Weights, weights}

abbrev pub lift : Digit → Weights → Weights
lift d00 w = weights (w.t + w.t + w.l + w.r) w.l w.r
lift d01 w = weights w.t (w.t + w.l + w.l + w.r) w.r
lift d10 w = weights (w.l + w.r) (w.t + w.l) (w.t + w.r)
lift d11 w = weights w.t w.l (w.t + w.l + w.r + w.r)

unfoldable pub lift_all : List Digit → Weights → Weights
lift_all [] w = w
lift_all (d ∷ ds) w = lift_all ds (lift d w)

pub weights_eq : {a b : Weights} → a.t ≡ b.t → a.l ≡ b.l → a.r ≡ b.r → a ≡ b
weights_eq {a} {b} x y z =
    ap (λ (m : ℕ). weights m a.l a.r) x ∙ ap (λ (m : ℕ). weights b.t m a.r) y ∙ ap (λ (m : ℕ). weights b.t b.l m) z

-- different weights are lifted to different ones
lift_one : (d : Digit) (a b : Weights) → lift d a ≡ lift d b → a ≡ b
lift_one d a b e = go d (ap (λ (w : Weights). w.t) e) (ap (λ (w : Weights). w.l) e) (ap (λ (w : Weights). w.r) e)
  where
    go : (d : Digit) → (lift d a).t ≡ (lift d b).t → (lift d a).l ≡ (lift d b).l → (lift d a).r ≡ (lift d b).r → a ≡ b
    go d00 x y z = weights_eq (omega arith) (omega arith) (omega arith)
    go d01 x y z = weights_eq (omega arith) (omega arith) (omega arith)
    go d10 x y z = weights_eq (omega arith) (omega arith) (omega arith)
    go d11 x y z = weights_eq (omega arith) (omega arith) (omega arith)

pub lift_all_one : (ds : List Digit) (a b : Weights) → lift_all ds a ≡ lift_all ds b → a ≡ b
unfolding lift_all
lift_all_one [] a b e = e
lift_all_one (d ∷ ds) a b e = lift_one d a b (lift_all_one ds (lift d a) (lift d b) e)
