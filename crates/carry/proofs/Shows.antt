-- The operations of the step, on words of 32 places. A premise T (every ..) is a test of what stands at each place; `tt`
-- proves it.
--
--   Shows ks f x == the word x has f k, below 4, at each of the 32 places k of ks
use Rattle.std.proofs.Common.{◌≡◌, ℕ, ◌+◌, ◌-◌, ◌*◌, ◌/◌, ◌%◌, ◌^◌, ◌<◌, Bool, true, false, T, eqb, ltb, List, length, sym, refl, ap, ◌∙◌, subst, ap₂, mod-eq_of_lt, arith, eqb→eq, ltb→lt, eq-eqb, ne_eqb}
use lib.Bits.{bit_and, bit_or, bit_xor, and_block, or_block, xor_block, and_lt, or_lt, xor_lt}
use Rattle.solids.specs.Triangles.{Side}
use Rattle.geometry.specs.Corners.{Digit}
use Rattle.geometry.specs.Steps.{crosses}
use Rattle.carry.proofs.Words.{word, word_lt, same, ones, twice, half, bits}
use Rattle.carry.proofs.Slots.{Slot, slots, slots_length, bit, into, out, carries}
use Rattle.carry.proofs.Tests.{every, each}

pub record Shows (ks : List Slot) (f : Slot → ℕ) (x : ℕ) : Type 0 where
  pub wide : length ks ≡ 32
  pub small : (k : Slot) → f k < 4
  pub is : x ≡ word f ks

equal : (f g : Slot → ℕ) → T (every (λ k. eqb (f k) (g k))) → (k : Slot) → f k ≡ g k
equal f g t k = eqb→eq (f k) (g k) (each (λ k. eqb (f k) (g k)) t k)

below : (f : Slot → ℕ) → T (every (λ k. ltb (f k) 4)) → (k : Slot) → f k < 4
below f t k = ltb→lt (f k) 4 (each (λ k. ltb (f k) 4) t k)

fits : (f : Slot → ℕ) → ((k : Slot) → f k < 4) → (ks : List Slot) → length ks ≡ 32 → word f ks < 2 ^ 64
fits f l ks e = subst (λ (n : ℕ). word f ks < 4 ^ n) e (word_lt f l ks)

module _ {ks : List Slot} where
  pub shown : length ks ≡ 32 → (f : Slot → ℕ) {x : ℕ} → T (every (λ k. ltb (f k) 4)) → x ≡ word f ks → Shows ks f x
  shown h f t e = record { wide = h; small = below f t; is = e }

  -- the same word, told by another function
  pub seen : {f : Slot → ℕ} {x : ℕ} → Shows ks f x → (g : Slot → ℕ) → T (every (λ k. eqb (f k) (g k))) → Shows ks g x
  seen {f} a g t = record {
    wide = a.wide;
    small = λ k. omega (arith, a.small k, equal f g t k);
    is = a.is ∙ same f g (equal f g t) ks;
  }

  module _ {f g : Slot → ℕ} {x y : ℕ} (a : Shows ks f x) (b : Shows ks g y) where
    pub and : Shows ks (λ k. bit_and (f k) (g k)) (bit_and x y)
    and = record {
      wide = a.wide;
      small = λ k. and_lt 2 (f k) (g k) (a.small k) (b.small k);
      is = ap₂ bit_and a.is b.is ∙ bits bit_and refl and_block f g a.small b.small ks;
    }

    pub or : Shows ks (λ k. bit_or (f k) (g k)) (bit_or x y)
    or = record {
      wide = a.wide;
      small = λ k. or_lt 2 (f k) (g k) (a.small k) (b.small k);
      is = ap₂ bit_or a.is b.is ∙ bits bit_or refl or_block f g a.small b.small ks;
    }

    pub xor : Shows ks (λ k. bit_xor (f k) (g k)) (bit_xor x y)
    xor = record {
      wide = a.wide;
      small = λ k. xor_lt 2 (f k) (g k) (a.small k) (b.small k);
      is = ap₂ bit_xor a.is b.is ∙ bits bit_xor refl xor_block f g a.small b.small ks;
    }

  module _ {f : Slot → ℕ} {x : ℕ} (a : Shows ks f x) where
    pub not : Shows ks (λ k. 3 - f k) ((2 ^ 64 - 1) - x)
    not =
        let e : (k : Slot) → f k + (3 - f k) ≡ 3 = λ k. omega (arith, a.small k) in
        record {
          wide = a.wide;
          small = λ k. omega arith;
          is = omega (arith, a.is, ones f (λ k. 3 - f k) e ks ∙ ap (λ (n : ℕ). 4 ^ n) a.wide);
        }

    -- shifts that take no bit from one place to another
    pub shr : T (every (λ k. eqb (f k) (f k / 2 * 2))) → Shows ks (λ k. f k / 2) (x / 2 ^ 1)
    shr t = record {
      wide = a.wide;
      small = λ k. omega (arith, a.small k);
      is = ap (λ (n : ℕ). n / 2) a.is ∙ half f (equal f (λ k. f k / 2 * 2) t) ks;
    }

    pub shl : T (every (λ k. ltb (f k * 2) 4)) → Shows ks (λ k. f k * 2) ((x * 2 ^ 1) % 2 ^ 64)
    shl t =
        let e : x * 2 ≡ word (λ k. f k * 2) ks = ap (λ (n : ℕ). n * 2) a.is ∙ twice f ks in
        shown a.wide (λ k. f k * 2) t
        (ap (λ (n : ℕ). n % 2 ^ 64) e ∙ mod-eq_of_lt (fits (λ k. f k * 2) (below (λ k. f k * 2) t) ks a.wide))

-- a sum that wraps, and its lost carry
wraps : (b : Bool) {p q : ℕ} → p + 1 ≡ bit b * 2 ^ 64 + q → p < 2 ^ 64 → q < 2 ^ 64 → ((p + 1) % 2 ^ 64 ≡ q) × (eqb q 0 ≡ b)
wraps true {p} {q} e hp hq = (omega arith, eq-eqb q 0 (omega arith))
wraps false {p} {q} e hp hq = (omega arith, ne_eqb q 0 (omega arith))

-- one added at the lowest place: the sum, and whether a carry is lost
module _ (s : Side) (z : ℕ) (ds : List Digit) where
  pub plus : {f : Slot → ℕ} {x y : ℕ} → Shows (slots s z ds) f x → y ≡ (x + 1) % 2 ^ 64 →
      (g : Slot → ℕ) → T (every (λ k. eqb (f k + into k) (out k * 4 + g k))) → T (every (λ k. ltb (g k) 4)) →
      Shows (slots s z ds) g y × (eqb y 0 ≡ crosses s ds)
  plus {f} {x} {y} a e g t l =
      let ks : List Slot = slots s z ds in
      let n : z + length ds ≡ 32 = sym (slots_length s z ds) ∙ a.wide in
      let c : word f ks + 1 ≡ bit (crosses s ds) * 2 ^ 64 + word g ks =
      carries s f g (equal (λ k. f k + into k) (λ k. out k * 4 + g k) t) z ds
      ∙ ap (λ (m : ℕ). bit (crosses s ds) * 4 ^ m + word g ks) n in
      let r = wraps (crosses s ds) c (fits f a.small ks a.wide) (fits g (below g l) ks a.wide) in
      let i : y ≡ word g ks = e ∙ ap (λ (m : ℕ). (m + 1) % 2 ^ 64) a.is ∙ r.0 in
      (shown a.wide g l i, ap (λ (m : ℕ). eqb m 0) i ∙ r.1)
