-- Sides and digits by number, and the laws of the step that a mesh rests on: it opens no digit, table or seam again.
--
--   back_no s         == the direction that leads back
--   first s, second s == the digits of the two children of a cell that have a side on its side s
--   OnEdge s q        == the child of digit q is one of these
--   StepLaws S step   == what a mesh asks of the step (direction, code) on the solid of number S
use Rattle.std.specs.Prelude.{◌≡◌, ℕ, zero, suc, ◌<◌, ◌≢◌, ◌⊎◌}
use Rattle.solids.specs.Triangles.{side_of}
use Rattle.geometry.specs.Neighbours.{Neighbour}
use Rattle.codes.specs.Codes.{depth, cell_of}
use Rattle.codes.specs.Places.{CodeOn, child_code}

abbrev pub back_no : ℕ → ℕ
back_no zero = 1
back_no (suc zero) = 0
back_no (suc (suc n)) = 2

unfoldable pub first : ℕ → ℕ
first zero = 0
first (suc zero) = 0
first (suc (suc n)) = 1

unfoldable pub second : ℕ → ℕ
second zero = 1
second (suc zero) = 3
second (suc (suc n)) = 3

abbrev pub OnEdge : ℕ → ℕ → Type 0
OnEdge s q = (q ≡ first s) ⊎ (q ≡ second s)

-- a child of c, of some digit, is x
pub record SomeDigit (c x : ℕ) : Type 0 where
  pub digit : ℕ
  pub four : digit < 4
  pub is : x ≡ child_code c digit

-- a child of c on its side s is x
pub record EdgeDigit (s c x : ℕ) : Type 0 where
  pub digit : ℕ
  pub on : OnEdge s digit
  pub is : x ≡ child_code c digit

pub record StepLaws (S : ℕ) (step : ℕ → ℕ → ℕ) : Type 0 where
  -- the step stays on the solid and on the depth, and leaves the cell
  pub on : (s x : ℕ) → s < 3 → CodeOn S x → CodeOn S (step s x)
  pub level : (s x : ℕ) → s < 3 → CodeOn S x → depth (step s x) ≡ depth x
  pub other : (s x : ℕ) → s < 3 → CodeOn S x → step s x ≢ x
  -- the step back undoes it
  pub undo : (s x : ℕ) → s < 3 → CodeOn S x → step (back_no s) (step s x) ≡ x
  -- a child that is not on the side steps to another child of its parent
  pub within : (s x q : ℕ) → s < 3 → CodeOn S x → depth x < 26 → q < 4 → (OnEdge s q → ⊥) → SomeDigit x (step s (child_code x q))
  -- a child on the side steps to a child of its parent's neighbour, on the side that leads back
  pub edge : (s x q : ℕ) → s < 3 → CodeOn S x → depth x < 26 → OnEdge s q → EdgeDigit (back_no s) (step s x) (step s (child_code x q))
  -- it is the neighbour by the corner rule, and no other code of the solid is
  pub corner : (s x : ℕ) → s < 3 → CodeOn S x → Neighbour (side_of s) (cell_of x) (cell_of (step s x))
  pub only : (s x y : ℕ) → s < 3 → CodeOn S x → CodeOn S y → Neighbour (side_of s) (cell_of x) (cell_of y) → y ≡ step s x
