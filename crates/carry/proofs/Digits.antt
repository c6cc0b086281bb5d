-- The words of paths, by their places: the path itself, the one that the walk leaves, the mirrored one; and the ones after
-- the last digit.
--
--   tail_at k     == ones at a place after the last digit, zeros at a digit
--   digit_at k    == the digit at the place k, 00 after the last digit
--   walked_at k   == the digit that the walk leaves there
--   mirrored_at k == that digit mirrored
use Rattle.std.proofs.Common.{◌≡◌, ℕ, zero, suc, ◌+◌, ◌*◌, ◌^◌, Bool, true, false, cond, not, ◌&&◌, List, [], ◌∷◌, map, refl, ap, pow-suc, arith}
use Rattle.solids.specs.Triangles.{Side}
use Rattle.geometry.specs.Corners.{Digit, d00}
use Rattle.geometry.specs.Paths.{digit_no, number}
use Rattle.geometry.specs.Steps.{stops, replaced, walked, mirror}
use Rattle.carry.proofs.Words.{word}
use Rattle.carry.proofs.Slots.{Slot, pad, at, places, slots}

abbrev pub tail_at : Slot → ℕ
tail_at (pad s) = 3
tail_at (at s d c) = 0

pub tail_word : (s : Side) (z : ℕ) (ds : List Digit) → word tail_at (slots s z ds) + 1 ≡ 4 ^ z
unfolding word slots places
tail_word s zero ds = omega (arith, none true ds)
  where
    none : (c : Bool) (ds : List Digit) → word tail_at (places s c ds) ≡ 0
    none c [] = refl
    none c (d ∷ ds) = omega (arith, none (c && not (stops s d)) ds)
tail_word s (suc z) ds = omega (arith, tail_word s z ds, pow-suc 4 z)

-- a path with the digit e k at each place k
module _ (e : Slot → Digit) (s : Side) where
  along : (c : Bool) (ds : List Digit) → word (λ k. digit_no (e k)) (places s c ds) ≡ number (map e (places s c ds))
  unfolding word places number
  along c [] = refl
  along c (d ∷ ds) = omega (arith, along (c && not (stops s d)) ds)

  pub path_word : e (pad s) ≡ d00 → (z : ℕ) (ds : List Digit) →
      word (λ k. digit_no (e k)) (slots s z ds) ≡ number (map e (places s true ds)) * 4 ^ z
  unfolding word slots
  path_word o zero ds = omega (arith, along true ds)
  path_word o (suc z) ds =
      let n : ℕ = number (map e (places s true ds)) in
      omega (arith, ap digit_no o, path_word o z ds, ap (λ (m : ℕ). n * m) (pow-suc 4 z))

abbrev pub digit_at : Slot → Digit
digit_at (pad s) = d00
digit_at (at s d c) = d

pub digits_at : (s : Side) (c : Bool) (ds : List Digit) → map digit_at (places s c ds) ≡ ds
unfolding places
digits_at s c [] = refl
digits_at s c (d ∷ ds) = ap (◌∷◌ d) (digits_at s (c && not (stops s d)) ds)

abbrev pub mirrored_at : Slot → Digit
mirrored_at (pad s) = d00
mirrored_at (at s d c) = mirror d

pub map-mirrored_at : (s : Side) (c : Bool) (ds : List Digit) → map mirrored_at (places s c ds) ≡ map mirror ds
unfolding places
map-mirrored_at s c [] = refl
map-mirrored_at s c (d ∷ ds) = ap (◌∷◌ (mirror d)) (map-mirrored_at s (c && not (stops s d)) ds)

abbrev pub walked_at : Slot → Digit
walked_at (pad s) = d00
walked_at (at s d c) = cond c (replaced s d) d

-- what the walk does not reach is kept
kept_at : (s : Side) (ds : List Digit) → map walked_at (places s false ds) ≡ ds
unfolding places
kept_at s [] = refl
kept_at s (d ∷ ds) = ap (◌∷◌ d) (kept_at s ds)

pub map-walked_at : (s : Side) (ds : List Digit) → map walked_at (places s true ds) ≡ walked s ds
unfolding places walked
map-walked_at s [] = refl
map-walked_at s (d ∷ ds) = ap (◌∷◌ (replaced s d)) (rest (stops s d) (map-walked_at s ds))
  where
    rest : (b : Bool) → map walked_at (places s true ds) ≡ walked s ds →
        map walked_at (places s (not b) ds) ≡ cond b ds (walked s ds)
    rest true i = kept_at s ds
    rest false i = i
