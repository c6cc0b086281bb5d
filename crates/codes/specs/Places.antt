-- A code as a place and a depth. The place is solid, face and path in one number, so a cell is an interval of places, and
-- the cell of depth 26 at each place of it lies in it.
--
--   place x        == the place of the code x
--   past x         == the first place after the cell of x
--   code_at g d    == the code of place g and depth d
--   base S, end S  == the first place of the solid of number S, and the first place after its faces
--   CodeOn S x     == x is a well-formed code of the solid of number S
--   child_code x q == the code of the child of x of digit q
--   parent_code x  == the code of the parent of x
--   last_digit x   == the last digit of x
use Rattle.std.specs.Prelude.{◌≡◌, ℕ, ◌+◌, ◌-◌, ◌*◌, ◌/◌, ◌%◌, ◌^◌, ◌<◌, ◌≤◌}
use Rattle.solids.specs.Solids.{Known, solid_of, faces}
use Rattle.codes.specs.Codes.{size, depth}

abbrev pub place : ℕ → ℕ
place x = x / 32

abbrev pub past : ℕ → ℕ
past x = place x + size (depth x)

abbrev pub code_at : ℕ → ℕ → ℕ
code_at g d = 32 * g + d

abbrev pub base : ℕ → ℕ
base S = S * 2 ^ 57

abbrev pub end : ℕ → ℕ
end S = base S + faces (solid_of S) * 2 ^ 52

pub record CodeOn (S x : ℕ) : Type 0 where
  pub known : Known S
  pub from : base S ≤ place x
  pub below : place x < end S
  pub deep : depth x ≤ 26
  pub tail : place x % size (depth x) ≡ 0

unfoldable pub child_code : ℕ → ℕ → ℕ
child_code x q = code_at (place x + q * size (depth x + 1)) (depth x + 1)

unfoldable pub parent_code : ℕ → ℕ
parent_code x = code_at (place x - place x % size (depth x - 1)) (depth x - 1)

unfoldable pub last_digit : ℕ → ℕ
last_digit x = place x / size (depth x) % 4
