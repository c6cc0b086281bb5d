-- The places of a path in a word: those after its last digit, then its digits, the last first. A place knows the direction
-- of the walk and whether the walk reaches it, so each word of the step is a function of the place. And the law of carries.
--
--   Slot          == a place: pad s, after the last digit; at s d c, with the digit d, which the walk reaches (c) or not
--   side_at k     == the direction that the place k knows
--   places s c ds == the places of the digits ds; c tells whether the walk reaches the last of them
--   slots s z ds  == z places after the last digit, and those of ds, of which the walk reaches the last
--   bit c         == 1 if c holds, else 0
--   into k, out k == what comes into the place k, and what goes out, where one is added at the lowest place
use Rattle.std.proofs.Common.{◌≡◌, ℕ, zero, suc, ◌+◌, ◌*◌, ◌^◌, Bool, true, false, not, ◌&&◌, List, [], ◌∷◌, length, refl, ap, ◌∙◌, pow-suc, arith}
use Rattle.solids.specs.Triangles.{Side}
use Rattle.geometry.specs.Corners.{Digit}
use Rattle.geometry.specs.Steps.{stops, crosses}
use Rattle.carry.proofs.Words.{word, rep}

pub data Slot : Type 0 where
  pad : Side → Slot
  at : Side → Digit → Bool → Slot

abbrev pub side_at : Slot → Side
side_at (pad s) = s
side_at (at s d c) = s

unfoldable pub places : Side → Bool → List Digit → List Slot
places s c [] = []
places s c (d ∷ ds) = at s d c ∷ places s (c && not (stops s d)) ds

unfoldable pub slots : Side → ℕ → List Digit → List Slot
slots s zero ds = places s true ds
slots s (suc z) ds = pad s ∷ slots s z ds

places_length : (s : Side) (c : Bool) (ds : List Digit) → length (places s c ds) ≡ length ds
unfolding places
places_length s c [] = refl
places_length s c (d ∷ ds) = ap suc (places_length s (c && not (stops s d)) ds)

pub slots_length : (s : Side) (z : ℕ) (ds : List Digit) → length (slots s z ds) ≡ z + length ds
unfolding slots
slots_length s zero ds = omega (arith, places_length s true ds)
slots_length s (suc z) ds = omega (arith, slots_length s z ds)

abbrev pub bit : Bool → ℕ
bit true = 1
bit false = 0

abbrev pub into : Slot → ℕ
into (pad s) = 1
into (at s d c) = bit c

abbrev pub out : Slot → ℕ
out (pad s) = 1
out (at s d c) = bit (c && not (stops s d))

-- THE LAW. Where at each place f and what comes in add to g and four times what goes out, the word of f and one add to the
-- word of g, and a carry is lost if the walk passes the first digit.
module _ (s : Side) (f g : Slot → ℕ) (e : (k : Slot) → f k + into k ≡ out k * 4 + g k) where
  along : (c : Bool) (ds : List Digit) →
      word f (places s c ds) + bit c ≡ bit (c && crosses s ds) * 4 ^ length ds + word g (places s c ds)
  unfolding word places crosses
  along true [] = refl
  along false [] = refl
  along c (d ∷ ds) =
      let b : ℕ = bit (c && crosses s (d ∷ ds)) in
      let r : bit ((c && not (stops s d)) && crosses s ds) ≡ b = regroup c in
      omega (arith, e (at s d c), rw r at (along (c && not (stops s d)) ds), ap (λ (m : ℕ). b * m) (pow-suc 4 (length ds)))
    where
      regroup : (b : Bool) → bit ((b && not (stops s d)) && crosses s ds) ≡ bit (b && crosses s (d ∷ ds))
      regroup true = refl
      regroup false = refl

  pub carries : (z : ℕ) (ds : List Digit) →
      word f (slots s z ds) + 1 ≡ bit (crosses s ds) * 4 ^ (z + length ds) + word g (slots s z ds)
  unfolding word slots
  carries zero ds =
      let n : length ds ≡ 0 + length ds = omega arith in
      along true ds ∙ ap (λ (m : ℕ). bit (crosses s ds) * 4 ^ m + word g (places s true ds)) n
  carries (suc z) ds =
      let n : suc z + length ds ≡ suc (z + length ds) = omega arith in
      let b : ℕ = bit (crosses s ds) in
      rw (n, pow-suc) (omega (arith, e (pad s), carries z ds))

-- what the direction settles stands at every place
module _ (f : Side → ℕ) (s : Side) where
  mask_along : (c : Bool) (ds : List Digit) → word (λ k. f (side_at k)) (places s c ds) ≡ rep (f s) (length ds)
  unfolding word places
  mask_along c [] = refl
  mask_along c (d ∷ ds) = ap (λ (m : ℕ). m * 4 + f s) (mask_along (c && not (stops s d)) ds)

  pub mask_word : (z : ℕ) (ds : List Digit) → word (λ k. f (side_at k)) (slots s z ds) ≡ rep (f s) (z + length ds)
  unfolding word slots
  mask_word zero ds = let n : length ds ≡ 0 + length ds = omega arith in mask_along true ds ∙ ap (rep (f s)) n
  mask_word (suc z) ds =
      let n : suc z + length ds ≡ suc (z + length ds) = omega arith in
      rw n (ap (λ (m : ℕ). m * 4 + f s) (mask_word z ds))
