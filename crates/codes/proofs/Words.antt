-- Shifts and masks: fields put side by side by `|`, and the path bits after the last digit.
-- Assumes nothing.
use mathlib.Core.Path.{◌≡◌, ap, subst, ◌∙◌, sym}
use Prim.Native.Nat.{ℕ, ◌+◌, ◌-◌, ◌*◌, ◌/◌, ◌%◌, ◌^◌, ◌<◌, ◌≤◌}
use native.Mathlib.Omega.{arith}
use lib.Bits.{bit_or, bit_and, or_shifted, and_mask}
use lib.Pow.{split, ones_split, ones_lt, high}
use Rattle.codes.specs.Codes.{joined, size}
use Rattle.codes.proofs.Sizes.{size_two}

-- a multiple of 2 ^ k, or'ed with what is below 2 ^ k, is their sum
pub or_add : (k a b : ℕ) → a % 2 ^ k ≡ 0 → b < 2 ^ k → bit_or a b ≡ a + b
or_add k a b m h =
    let e : a / 2 ^ k * 2 ^ k ≡ a = omega (arith, split a k) in
    subst (λ (x : ℕ). bit_or x b ≡ x + b) e (or_shifted (a / 2 ^ k) k b h)

pub join_bits : (s f p d : ℕ) → s < 4 → f < 32 → p < 2 ^ 52 → d < 32 →
    bit_or (bit_or (bit_or (s * 2 ^ 62 % 2 ^ 64) (f * 2 ^ 57 % 2 ^ 64)) (p * 2 ^ 5 % 2 ^ 64)) d ≡ joined s f p d
join_bits s f p d hs hf hp hd =
    let e1 : s * 2 ^ 62 % 2 ^ 64 ≡ s * 2 ^ 62 = omega arith in
    let e2 : f * 2 ^ 57 % 2 ^ 64 ≡ f * 2 ^ 57 = omega arith in
    let e3 : p * 2 ^ 5 % 2 ^ 64 ≡ p * 32 = omega arith in
    rw (
      e1,
      e2,
      e3,
      or_add 62 (s * 2 ^ 62) (f * 2 ^ 57) (omega arith) (omega arith),
      or_add 57 (s * 2 ^ 62 + f * 2 ^ 57) (p * 32) (omega arith) (omega arith),
      or_add 5 (s * 2 ^ 62 + f * 2 ^ 57 + p * 32) d (omega arith) hd,
    )

pub tail_bits : (p d : ℕ) → d ≤ 26 → bit_and p ((2 ^ 52 - 1) / 2 ^ (2 * d)) ≡ p % size d
tail_bits p d h =
    let e : 52 ≡ (52 - 2 * d) + 2 * d = omega arith in
    let m : (2 ^ 52 - 1) / 2 ^ (2 * d) ≡ 2 ^ (52 - 2 * d) - 1 =
    ap (λ (k : ℕ). (2 ^ k - 1) / 2 ^ (2 * d)) e ∙ ap (λ (k : ℕ). k / 2 ^ (2 * d)) (ones_split (52 - 2 * d) (2 * d))
    ∙ high (2 ^ (52 - 2 * d) - 1) (2 * d) (ones_lt (2 * d)) in
    ap (bit_and p) m ∙ and_mask p (52 - 2 * d) ∙ sym (ap (λ (k : ℕ). p % k) (size_two d h))
