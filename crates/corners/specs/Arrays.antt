-- Corners as "arrays of twelve weights, three to a cell", and the corner rule on them.
--
--   at c p         == the array of the corner p
--   AreCorners c P == the arrays of c are the corners of the triangle P, weight for weight
--   HasCorner P x  == the triangle P has the corner x, at whichever of its own corners
--   HasSide s P Q  == the triangle Q has both end corners of side s of the triangle P
use Rattle.std.specs.Prelude.{List, ◌≡◌, ℕ}
use Rattle.solids.specs.Triangles.{Corner, tip, lft, rgt, Side, end₀, end₁}
use Rattle.geometry.specs.Corners.{Triangle}
use Rattle.corners.specs.declared.Corners.{Corners}

-- "Each cell has a tip, a left and a right corner, T, L, R."
abbrev pub at : Corners → Triangle
at c tip = c.tip
at c lft = c.left
at c rgt = c.right

abbrev pub AreCorners : Corners → Triangle → Type 0
AreCorners c P = (p : Corner) → at c p ≡ P p

pub record HasCorner (P : Triangle) (x : List ℕ) : Type 0 where
  pub corner : Corner
  pub is : P corner ≡ x

-- "the one other cell of the same solid and depth that has both end corners of that side"
pub record HasSide (s : Side) (P Q : Triangle) : Type 0 where
  pub first : HasCorner Q (P (end₀ s))
  pub second : HasCorner Q (P (end₁ s))
