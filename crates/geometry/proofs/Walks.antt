-- The walk over a path that is a number: what one turn of a loop over its digits does, from the last digit upwards.
-- Assumes nothing.
use mathlib.Core.Bool.{true, false}
use mathlib.Core.List.{map}
use mathlib.Core.Path.{◌≡◌, refl}
use Prim.Native.Nat.{ℕ, suc, ◌+◌, ◌*◌, ◌/◌, ◌%◌, ◌^◌, ◌<◌}
use native.Mathlib.Omega.{arith}
use Rattle.solids.specs.Triangles.{Side}
use Rattle.geometry.specs.Paths.{digit_no, digit_of, number, digits}
use Rattle.geometry.specs.Steps.{stops, replaced, walked, crosses, mirror}
use Rattle.geometry.proofs.Paths.{number-digits}

-- the last digit climbs: it is replaced, and the walk goes on with the rest
pub walk_climbs : (s : Side) (n p : ℕ) → stops s (digit_of (p % 4)) ≡ false →
    (number (walked s (digits (suc n) p)) ≡ digit_no (replaced s (digit_of (p % 4))) + 4 * number (walked s (digits n (p / 4)))) ×
    (crosses s (digits (suc n) p) ≡ crosses s (digits n (p / 4)))
unfolding digits number walked crosses
walk_climbs s n p e = rw e (refl, refl)

-- the last digit stops: it is replaced, and the rest is kept
pub walk_stops : (s : Side) (n p : ℕ) → p < 4 ^ suc n → stops s (digit_of (p % 4)) ≡ true →
    (number (walked s (digits (suc n) p)) ≡ digit_no (replaced s (digit_of (p % 4))) + 4 * (p / 4)) ×
    (crosses s (digits (suc n) p) ≡ false)
unfolding digits number walked crosses
walk_stops s n p h e =
    let r : number (digits n (p / 4)) ≡ p / 4 = number-digits n (p / 4) (omega arith) in
    rw e (rw r, refl)

-- over a mirrored seam each digit is mirrored
pub mirror_turn : (n p : ℕ) →
    number (map mirror (digits (suc n) p)) ≡ digit_no (mirror (digit_of (p % 4))) + 4 * number (map mirror (digits n (p / 4)))
unfolding digits number
mirror_turn n p = refl
