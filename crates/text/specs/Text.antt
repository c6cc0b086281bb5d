-- Numbers as text, in ASCII codes.
--
--   glyph d      == the digit d below 16: `0` to `9`, then `a` to `f`
--   digits b k n == the last k digits of n in base b, the most significant first
--   Shows x d    == the byte x shows the digit d
--   Digit x r    == r is the digit that the byte x shows, or None if it shows none
--   Reads bs k r == r is the number that the bytes show as k digits in base 16, or None if they show none
use Rattle.std.specs.Prelude.{List, [], ◌∷◌, ◌++◌, ◌≡◌, ℕ, zero, suc, ◌+◌, ◌/◌, ◌%◌, ◌^◌, ◌<◌, if◌then◌else◌, nat_lt, Option, Some, None}

abbrev pub glyph : ℕ → ℕ
glyph d = if nat_lt d 10 then 48 + d else 87 + d

unfoldable pub digits : ℕ → ℕ → ℕ → List ℕ
digits b zero n = []
digits b (suc k) n = digits b k (n / b) ++ (glyph (n % b) ∷ [])

abbrev pub Shows : ℕ → ℕ → Type 0
Shows x d = (d < 16) × (x ≡ glyph d)

abbrev pub Digit : ℕ → Option ℕ → Type 0
Digit x (Some d) = Shows x d
Digit x None = (d : ℕ) → Shows x d → ⊥

abbrev pub Reads : List ℕ → ℕ → Option ℕ → Type 0
Reads bytes k (Some n) = (n < 16 ^ k) × (bytes ≡ digits 16 k n)
Reads bytes k None = (n : ℕ) → bytes ≡ digits 16 k n → ⊥
