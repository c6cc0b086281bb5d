-- The step and a cell's children: a child whose digit stops goes to a child of the same cell, a child whose digit climbs
-- goes to a child of the cell's neighbour, the same way as the cell itself.
--
--   new_digit m s d == the digit that d becomes over side s, by the walk or over a mirrored seam (m true)
--
-- Assumes nothing.
use mathlib.Core.Bool.{Bool, true, false}
use mathlib.Core.Path.{◌≡◌, refl}
use Rattle.solids.specs.Triangles.{Side, left, right, vertical, back}
use Rattle.geometry.specs.Corners.{Digit, d00, d01, d10, d11}
use Rattle.geometry.specs.Cells.{Cell, child}
use Rattle.geometry.specs.Steps.{stops, replaced, walked, crosses, mirror, Way, inside, over_straight, over_mirrored, way, flips, moved, step}

abbrev pub new_digit : Bool → Side → Digit → Digit
new_digit false s d = replaced s d
new_digit true s d = mirror d

-- the way back stops at the new digit where the way here stops at the old one
pub stops_back : (m : Bool) (s : Side) (d : Digit) → stops (back s) (new_digit m s d) ≡ stops s d
unfolding stops replaced mirror
stops_back false left d00 = refl
stops_back false left d01 = refl
stops_back false left d10 = refl
stops_back false left d11 = refl
stops_back false right d00 = refl
stops_back false right d01 = refl
stops_back false right d10 = refl
stops_back false right d11 = refl
stops_back false vertical d00 = refl
stops_back false vertical d01 = refl
stops_back false vertical d10 = refl
stops_back false vertical d11 = refl
stops_back true left d00 = refl
stops_back true left d01 = refl
stops_back true left d10 = refl
stops_back true left d11 = refl
stops_back true right d00 = refl
stops_back true right d01 = refl
stops_back true right d10 = refl
stops_back true right d11 = refl
stops_back true vertical d00 = refl
stops_back true vertical d01 = refl
stops_back true vertical d10 = refl
stops_back true vertical d11 = refl

module _ (s : Side) (c : Cell) (d : Digit) where
  pub way_stops : stops s d ≡ true → way s (child c d) ≡ inside
  unfolding way crosses
  way_stops e = rw e

  pub way_climbs : stops s d ≡ false → way s (child c d) ≡ way s c
  unfolding way crosses
  way_climbs e = rw e

  pub child_stops : stops s d ≡ true → step s (child c d) ≡ child c (replaced s d)
  unfolding step walked
  child_stops e = rw (way_stops e, e)

  pub child_climbs : stops s d ≡ false → step s (child c d) ≡ child (step s c) (new_digit (flips (way s c)) s d)
  unfolding step walked
  child_climbs e = rw (way_climbs e) (go (way s c))
    where
      go : (w : Way) → moved w s (child c d) ≡ child (moved w s c) (new_digit (flips w) s d)
      go inside = rw e
      go over_straight = rw e
      go over_mirrored = refl
