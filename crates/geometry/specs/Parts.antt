-- When a cell's side is part of its parent's side, by corners.
--
--   end_of b s   == an end of side s: the first (b false) or the second
--   OnSide s P X == X lies on side s of the triangle P, one level down: it is the sum of the side's two ends, or of one of
--                   them with itself
--   Part s c     == side s of the cell c is part of side s of its parent
use Rattle.std.specs.Prelude.{Bool, true, false, List, ◌≡◌, ℕ}
use Rattle.solids.specs.Triangles.{Corner, Side, end₀, end₁}
use Rattle.geometry.specs.Weights.{◌⊕◌}
use Rattle.geometry.specs.Corners.{Triangle}
use Rattle.geometry.specs.Cells.{Cell, corner, parent}

abbrev pub end_of : Bool → Side → Corner
end_of false s = end₀ s
end_of true s = end₁ s

pub record OnSide (s : Side) (P : Triangle) (X : List ℕ) : Type 0 where
  pub i : Bool
  pub j : Bool
  pub sum : X ≡ P (end_of i s) ⊕ P (end_of j s)

-- Document 02, request 14: "where a cell's side in one direction is part of its parent's side in that direction"
pub record Part (s : Side) (c : Cell) : Type 0 where
  pub first : OnSide s (corner (parent c)) (corner c (end₀ s))
  pub second : OnSide s (corner (parent c)) (corner c (end₁ s))
