-- A path as a number, base 4, the last digit lowest.
--
--   digit_no d     == the number of a digit
--   digit_of n     == the digit that a number names; 3 or more is 11
--   number ds      == the number of a path
--   digits n p     == the path of n digits that has the number p
--   DigitTried n r == r is the digit of number n, or refuses where no digit has it
use Rattle.std.specs.Prelude.{List, [], ◌∷◌, ◌≡◌, ℕ, zero, suc, ◌+◌, ◌*◌, ◌/◌, ◌%◌, ◌≤◌, Result, MatchResult}
use Rattle.refusals.specs.declared.Refusal.{Refusal}
use Rattle.refusals.specs.declared.Refusal.TheVariants.{Digit as NoDigit}
use Rattle.geometry.specs.Corners.{Digit, d00, d01, d10, d11}

abbrev pub digit_no : Digit → ℕ
digit_no d00 = 0
digit_no d01 = 1
digit_no d10 = 2
digit_no d11 = 3

abbrev pub digit_of : ℕ → Digit
digit_of zero = d00
digit_of (suc zero) = d01
digit_of (suc (suc zero)) = d10
digit_of (suc (suc (suc n))) = d11

unfoldable pub number : List Digit → ℕ
number [] = 0
number (d ∷ ds) = digit_no d + 4 * number ds

unfoldable pub digits : ℕ → ℕ → List Digit
digits zero p = []
digits (suc n) p = digit_of (p % 4) ∷ digits n (p / 4)

abbrev pub DigitTried : ℕ → Result Digit Refusal → Type 0
DigitTried n r = MatchResult r (λ q. digit_no q ≡ n) (λ e. (e ≡ NoDigit) × (n ≤ 3 → ⊥))
