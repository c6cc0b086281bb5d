-- Paths of n digits and numbers below 4 ^ n are one and the same.
-- Assumes nothing.
use mathlib.Core.List.{List, [], ◌∷◌}
use mathlib.Core.Path.{◌≡◌, refl, ap, ap₂, sym, ◌∙◌}
use Prim.Native.Nat.{ℕ, zero, suc, ◌+◌, ◌*◌, ◌/◌, ◌%◌, ◌^◌, ◌<◌}
use native.Mathlib.Nat.{pow-suc}
use native.Mathlib.Omega.{arith}
use lib.ListN.{length}
use lib.Pow.{pow-add}
use Rattle.geometry.specs.Corners.{Digit, d00, d01, d10, d11}
use Rattle.geometry.specs.Paths.{digit_no, digit_of, number, digits}

pub digit<4 : (d : Digit) → digit_no d < 4
digit<4 d00 = omega arith
digit<4 d01 = omega arith
digit<4 d10 = omega arith
digit<4 d11 = omega arith

pub digit_of-digit_no : (d : Digit) → digit_of (digit_no d) ≡ d
digit_of-digit_no d00 = refl
digit_of-digit_no d01 = refl
digit_of-digit_no d10 = refl
digit_of-digit_no d11 = refl

pub digit_no-digit_of : (k : ℕ) → k < 4 → digit_no (digit_of k) ≡ k
digit_no-digit_of zero h = refl
digit_no-digit_of (suc zero) h = refl
digit_no-digit_of (suc (suc zero)) h = refl
digit_no-digit_of (suc (suc (suc n))) h = omega arith

pub length-digits : (n p : ℕ) → length (digits n p) ≡ n
unfolding digits
length-digits zero p = refl
length-digits (suc n) p = ap suc (length-digits n (p / 4))

pub digits-number : (ds : List Digit) → digits (length ds) (number ds) ≡ ds
unfolding digits number
digits-number [] = refl
digits-number (d ∷ ds) =
    let m : (digit_no d + 4 * number ds) % 4 ≡ digit_no d = omega (arith, digit<4 d) in
    let q : (digit_no d + 4 * number ds) / 4 ≡ number ds = omega (arith, digit<4 d) in
    rw (m, q) (ap₂ ◌∷◌ (digit_of-digit_no d) (digits-number ds))

pub number-digits : (n p : ℕ) → p < 4 ^ n → number (digits n p) ≡ p
unfolding digits number
number-digits zero p h = omega arith
number-digits (suc n) p h =
    let m : digit_no (digit_of (p % 4)) ≡ p % 4 = digit_no-digit_of (p % 4) (omega arith) in
    omega (arith, m, number-digits n (p / 4) (omega arith))

pub number< : (ds : List Digit) → number ds < 4 ^ length ds
unfolding number
number< [] = omega arith
number< (d ∷ ds) = omega (arith, digit<4 d, number< ds, pow-suc 4 (length ds))

-- two paths of one length and one number are one
pub one_path : (xs ys : List Digit) → length xs ≡ length ys → number xs ≡ number ys → xs ≡ ys
one_path xs ys e f = sym (digits-number xs) ∙ ap₂ digits e f ∙ digits-number ys

-- a digit is two bits
pub four : (n : ℕ) → 4 ^ n ≡ 2 ^ (2 * n)
four zero = refl
four (suc n) =
    let e : 2 * suc n ≡ 2 * n + 2 = omega arith in
    pow-suc 4 n ∙ ap (λ (a : ℕ). a * 4) (four n) ∙ sym (ap (λ (k : ℕ). 2 ^ k) e ∙ pow-add 2 (2 * n) 2)
