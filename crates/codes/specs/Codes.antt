-- The code of a triangle: one 64-bit number.
--
--   solid x, face x, path x, depth x == the fields of the code x
--   joined s f p d                   == the code with these fields
--   size d                           == the place value of the last digit at depth d, in a path of 26 digits
--   Formed s f p d                   == the fields are those of a cell
--   IsCode x                           == x is a well-formed code
--   path_bits ds                     == the 52 bits of a path, its first digit on top
--   cell_of x, code_of c             == the cell of a code, the code of a cell
--   Within x y                       == the cell of y is that of x or lies inside it
--   Descends x y                     == y is another code within x: x is an ancestor of y
--   faults, code_faults              == refusals 1 to 4, in their sequence, for four fields and for a code
--
use Rattle.std.specs.Prelude.{List, ◌≢◌, ◌≡◌, ℕ, ◌+◌, ◌-◌, ◌*◌, ◌/◌, ◌%◌, ◌^◌, ◌<◌, ◌≤◌, length}
use Rattle.solids.specs.Solids.{Known, solid_no, solid_of, faces}
use Rattle.refusals.specs.Refusals.{SOLID, FACE, DEPTH, TAIL, need}
use Rattle.geometry.specs.Corners.{Digit}
use Rattle.geometry.specs.Paths.{number, digits}
use Rattle.geometry.specs.Cells.{Cell, cell, depth_of, under}

-- "From the top: 2 bits solid, 5 bits face, 52 bits path, 5 bits depth."
abbrev pub solid : ℕ → ℕ
solid x = x / 2 ^ 62

abbrev pub face : ℕ → ℕ
face x = x / 2 ^ 57 % 2 ^ 5

abbrev pub path : ℕ → ℕ
path x = x / 2 ^ 5 % 2 ^ 52

abbrev pub depth : ℕ → ℕ
depth x = x % 2 ^ 5

abbrev pub joined : ℕ → ℕ → ℕ → ℕ → ℕ
joined s f p d = s * 2 ^ 62 + f * 2 ^ 57 + p * 2 ^ 5 + d

-- "The path holds one two-bit digit a level, the first in bits 56 and 55": the last stands before 26 - d unused places.
unfoldable pub size : ℕ → ℕ
size d = 4 ^ (26 - d)

-- "The path bits after the last digit are zero. Depth is 0 to 26."
pub record Formed (s f p d : ℕ) : Type 0 where
  pub known : Known s
  pub on : f < faces (solid_of s)
  pub deep : d ≤ 26
  pub tail : (p < 2 ^ 52) × (p % size d ≡ 0)

abbrev pub IsCode : ℕ → Type 0
IsCode x = Formed (solid x) (face x) (path x) (depth x)

unfoldable pub cell_of : ℕ → Cell
cell_of x = cell (solid_of (solid x)) (face x) (digits (depth x) (path x / size (depth x)))

abbrev pub path_bits : List Digit → ℕ
path_bits ds = number ds * size (length ds)

unfoldable pub code_of : Cell → ℕ
code_of c = joined (solid_no c.solid) c.face (path_bits c.path) (depth_of c)

pub record Within (x y : ℕ) : Type 0 where
  pub digits : List Digit
  pub inside : cell_of y ≡ under (cell_of x) digits

pub record Descends (x y : ℕ) : Type 0 where
  pub within : Within x y
  pub other : y ≢ x

-- "First cause in the sequence wins. Pure calls: 1, 2, 3, 4, then ..": `out k` is the answer that refuses by the number k.
abbrev pub faults : {A : Type 0} → (ℕ → A) → ℕ → ℕ → ℕ → ℕ → (A → Type 0) → A → Type 0
faults out s f p d rest =
    need (Known s) (out SOLID)
    (need (f < faces (solid_of s)) (out FACE)
    (need (d ≤ 26) (out DEPTH)
    (need ((p < 2 ^ 52) × (p % size d ≡ 0)) (out TAIL)
    rest)))

abbrev pub code_faults : {A : Type 0} → (ℕ → A) → ℕ → (A → Type 0) → A → Type 0
code_faults out x rest = faults out (solid x) (face x) (path x) (depth x) rest
