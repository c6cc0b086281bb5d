-- A turn tells whether the walk stops at a digit, and what the digit is replaced by.
--
--   Told s d e stop == in direction s the digit d becomes e, and the walk stops there or climbs, as `stop` says
use Rattle.std.proofs.Common.{◌≡◌, ℕ, Bool, true, false, cond, refl, arith}
use Rattle.solids.specs.Triangles.{Side}
use Rattle.geometry.specs.Corners.{Digit}
use Rattle.geometry.specs.Steps.{stops, replaced}
use Rattle.walk.specs.Walks.{turn_of}
use Rattle.walk.specs.declared.Turn.TheVariants.{Stop, Climb}

pub record Told (s : Side) (d e : Digit) (stop : Bool) : Type 0 where
  pub test : stops s d ≡ stop
  pub new : replaced s d ≡ e

-- equal turns stop or climb alike, with one digit
one_turn : (x y : Bool) (n e : Digit) → cond x (Stop n) (Climb n) ≡ cond y (Stop e) (Climb e) → (x ≡ y) × (n ≡ e)
one_turn true true n e h = (refl, (cc))
one_turn true false n e h = absurd (let z : ◌≡◌ {A = ℕ} 0 1 = cc in omega arith)
one_turn false true n e h = absurd (let z : ◌≡◌ {A = ℕ} 0 1 = cc in omega arith)
one_turn false false n e h = (refl, (cc))

pub told : (s : Side) (d e : Digit) (stop : Bool) → turn_of s d ≡ cond stop (Stop e) (Climb e) → Told s d e stop
unfolding turn_of
told s d e stop h = let o = one_turn (stops s d) stop (replaced s d) e h in record { test = o.0; new = o.1 }
