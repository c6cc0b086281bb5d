-- The loop from the last digit upwards: what holds when it has passed some digits, and what a turn makes of it.
--
--   Kept s p d low place rest left == in the walk over the path p of d digits those passed have become `low`, the next one
--                                     counts `place`, and the walk goes on over the `left` digits of `rest`
use Rattle.std.proofs.Common.{◌≡◌, ℕ, zero, suc, ◌+◌, ◌-◌, ◌*◌, ◌/◌, ◌%◌, ◌^◌, ◌<◌, ◌≤◌, true, false, refl, sym, ◌∙◌, pow-suc, arith}
use native.Mathlib.Nat.{pow-le-pow_right, mul-le-mul_left, mul-le-mul_right}
use Rattle.solids.specs.Triangles.{Side}
use Rattle.geometry.specs.Corners.{Digit}
use Rattle.geometry.specs.Paths.{digit_no, digit_of, number, digits}
use Rattle.geometry.specs.Steps.{walked, crosses}
use Rattle.geometry.proofs.Paths.{digit<4}
use Rattle.geometry.proofs.Walks.{walk_climbs, walk_stops}
use Rattle.walk.specs.Walks.{turn_of, Walks}
use Rattle.walk.specs.declared.Turn.TheVariants.{Stop, Climb}
use Rattle.walk.proofs.Turns.{told}

pub record Kept (s : Side) (p d low place rest left : ℕ) : Type 0 where
  pub path : number (walked s (digits d p)) ≡ low + place * number (walked s (digits left rest))
  pub over : crosses s (digits d p) ≡ crosses s (digits left rest)
  pub small : rest < 4 ^ left
  pub below : low < place
  pub scale : place * 4 ^ left ≤ 4 ^ 26

four_le : {m n : ℕ} → m ≤ n → 4 ^ m ≤ 4 ^ n
four_le h = pow-le-pow_right (omega arith) h

-- the place value and the rest fit
pub room : {s : Side} {p d low place rest left : ℕ} → Kept s p d low place rest left → (place ≤ 4 ^ 26) × (rest < 4 ^ 26)
room {place = place} {left = left} k =
    let z : 0 ≤ left = omega arith in
    let one : 1 ≤ place = omega arith in
    (omega (arith, mul-le-mul_left place (four_le z)), omega (arith, mul-le-mul_right (4 ^ left) one))

pub start : (s : Side) (p d : ℕ) → d ≤ 26 → p < 4 ^ d → Kept s p d 0 1 p (d - 0)
start s p d h l =
    let z : d - 0 ≡ d = omega arith in
    rw z record { path = omega arith; over = refl; small = l; below = omega arith; scale = omega (arith, four_le h) }

pub ended : {s : Side} {p d low place rest : ℕ} (left : ℕ) → Kept s p d low place rest left → left ≡ 0 → Walks s p d low true
unfolding digits walked crosses number
ended zero k e = record { path = omega (arith, k.path); over = sym k.over }
ended (suc n) k e = absurd (omega arith)

pub stopped : {s : Side} {p d low place rest : ℕ} {e : Digit} (left : ℕ) → Kept s p d low place rest left → 0 < left →
    turn_of s (digit_of (rest % 4)) ≡ Stop e → Walks s p d (low + place * (rest / 4 * 4 + digit_no e)) false
stopped zero k h t = absurd (omega arith)
stopped {s} {rest = rest} {e} (suc n) k h t =
    let o = told s (digit_of (rest % 4)) e true t in
    let w = walk_stops s n rest k.small o.test in
    record { path = omega (arith, rw (w.0, o.new) at k.path); over = sym (k.over ∙ w.1) }

pub climbed : {s : Side} {p d low place rest : ℕ} {e : Digit} (left : ℕ) → Kept s p d low place rest (suc left) →
    turn_of s (digit_of (rest % 4)) ≡ Climb e → Kept s p d (low + place * digit_no e) (place * 4) (rest / 4) left
climbed {s} {place = place} {rest} {e} n k t =
    let o = told s (digit_of (rest % 4)) e false t in
    let w = walk_climbs s n rest o.test in
    let e3 : digit_no e ≤ 3 = omega (arith, digit<4 e) in
    record {
      path = omega (arith, rw (w.0, o.new) at k.path);
      over = k.over ∙ w.1;
      small = omega (arith, k.small, pow-suc 4 n);
      below = omega (arith, k.below, mul-le-mul_left place e3);
      scale = omega (arith, rw (pow-suc 4 n) at k.scale);
    }
