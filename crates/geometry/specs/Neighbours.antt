-- The corner rule: what a neighbour is. It speaks of corners alone; the step by digits and the rows of next faces have no
-- part in it.
--
--   Has s c n       == the cell n has both end corners of side s of the cell c, at whichever of its own corners
--   Neighbour s c n == n is another cell of c's solid and depth that has them
use Rattle.std.specs.Prelude.{◌≢◌, ◌≡◌}
use Rattle.solids.specs.Triangles.{Corner, Side, end₀, end₁}
use Rattle.geometry.specs.Cells.{Cell, WellFormed, depth_of, corner}

pub record Has (s : Side) (c n : Cell) : Type 0 where
  pub at₀ : Corner
  pub at₁ : Corner
  pub same₀ : corner n at₀ ≡ corner c (end₀ s)
  pub same₁ : corner n at₁ ≡ corner c (end₁ s)

-- "The neighbour over a side is the one other cell of the same solid and depth that has both end corners of that side."
pub record Neighbour (s : Side) (c n : Cell) : Type 0 where
  pub well_formed : WellFormed n
  pub solid : n.solid ≡ c.solid
  pub depth : depth_of n ≡ depth_of c
  pub other : n ≢ c
  pub has : Has s c n
