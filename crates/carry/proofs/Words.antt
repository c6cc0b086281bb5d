-- Words of two-bit places, the lowest place first: what is done to words is done at each place.
--
--   word f ks == the number with f k at each place k of ks
--   rep v n   == the number with v at each of n places
use Rattle.std.proofs.Common.{◌≡◌, ℕ, zero, suc, ◌+◌, ◌-◌, ◌*◌, ◌/◌, ◌^◌, ◌<◌, ◌≤◌, List, [], ◌∷◌, length, sym, refl, ap, ◌∙◌, ap₂, pow-suc, arith}
use lib.Pow.{high, ones_split, ones_lt}
use Rattle.geometry.proofs.Paths.{four}

unfoldable pub word : {A : Type 0} → (A → ℕ) → List A → ℕ
word f [] = 0
word f (k ∷ ks) = word f ks * 4 + f k

abbrev pub rep : ℕ → ℕ → ℕ
rep v zero = 0
rep v (suc n) = rep v n * 4 + v

module _ {A : Type 0} (f : A → ℕ) where
  pub word_lt : ((k : A) → f k < 4) → (ks : List A) → word f ks < 4 ^ length ks
  unfolding word
  word_lt l [] = omega arith
  word_lt l (k ∷ ks) = omega (arith, pow-suc 4 (length ks), word_lt l ks, l k)

  pub same : (g : A → ℕ) → ((k : A) → f k ≡ g k) → (ks : List A) → word f ks ≡ word g ks
  unfolding word
  same g e [] = refl
  same g e (k ∷ ks) = ap₂ (λ (a b : ℕ). a * 4 + b) (same g e ks) (e k)

  -- places that add to 3 add to a word of ones
  pub ones : (g : A → ℕ) → ((k : A) → f k + g k ≡ 3) → (ks : List A) → word f ks + word g ks + 1 ≡ 4 ^ length ks
  unfolding word
  ones g e [] = refl
  ones g e (k ∷ ks) = omega (arith, e k, ones g e ks, pow-suc 4 (length ks))

  pub twice : (ks : List A) → word f ks * 2 ≡ word (λ k. f k * 2) ks
  unfolding word
  twice [] = refl
  twice (k ∷ ks) = omega (arith, twice ks)

-- where all places are even
pub half : {A : Type 0} (f : A → ℕ) → ((k : A) → f k ≡ f k / 2 * 2) → (ks : List A) → word f ks / 2 ≡ word (λ k. f k / 2) ks
half f e ks = omega (arith, same f (λ k. f k / 2 * 2) e ks, twice (λ k. f k / 2) ks)

-- &, | and ^: all that is asked of them is that they act on blocks of bits
module _ (op : ℕ → ℕ → ℕ) (none : op 0 0 ≡ 0)
    (block : (k a b r s : ℕ) → r < 2 ^ k → s < 2 ^ k → op (a * 2 ^ k + r) (b * 2 ^ k + s) ≡ op a b * 2 ^ k + op r s) where
  pub bits : {A : Type 0} (f g : A → ℕ) → ((k : A) → f k < 4) → ((k : A) → g k < 4) → (ks : List A) →
      op (word f ks) (word g ks) ≡ word (λ k. op (f k) (g k)) ks
  unfolding word
  bits f g l m [] = none
  bits f g l m (k ∷ ks) =
      block 2 (word f ks) (word g ks) (f k) (g k) (l k) (m k)
      ∙ ap (λ (a : ℕ). a * 4 + op (f k) (g k)) (bits f g l m ks)

-- a word of ones, shifted down by two bits for each digit, has ones at the other places
pub shifted : (d : ℕ) → d ≤ 26 → (2 ^ 64 - 1) / 2 ^ (2 * d) ≡ 4 ^ (32 - d) - 1
shifted d h =
    let e : 64 ≡ 2 * (32 - d) + 2 * d = omega arith in
    ap (λ (m : ℕ). (2 ^ m - 1) / 2 ^ (2 * d)) e
    ∙ ap (λ (m : ℕ). m / 2 ^ (2 * d)) (ones_split (2 * (32 - d)) (2 * d))
    ∙ high (2 ^ (2 * (32 - d)) - 1) (2 * d) (ones_lt (2 * d))
    ∙ ap (λ (m : ℕ). m - 1) (sym (four (32 - d)))
