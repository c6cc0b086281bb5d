-- The step by digits.
--
--   stops s d          == in direction s the walk ends at the digit d; at another digit it climbs
--   replaced s d       == what the walk puts in the place of d
--   walked s ds        == the path ds with the walk's replacements
--   crosses s ds       == the walk passes the first digit of ds
--   mirror d           == d with 01 made 11 and 11 made 01
--   Way                == how a step goes: inside the face, over a straight seam, over a mirrored seam
--   way_no w           == the number of a way: 0, 1, 2
--   flips w            == the way w is over a mirrored seam
--   way_of x m         == the way of a walk that crosses (x) or not, at a seam that is mirrored (m) or not
--   way s c            == how the step in direction s goes from the cell c
--   new_face, new_path == the face and the path that a step leads to, by its way
--   moved w s c        == the cell of that face and path
--   step s c           == the cell that the step in direction s leads to from c
use Rattle.std.specs.Prelude.{Bool, true, false, ◌&&◌, not, List, [], ◌∷◌, map, ℕ, if◌then◌else◌}
use Rattle.solids.specs.Triangles.{Side, left, right, vertical}
use Rattle.solids.specs.Solids.{Solid, next_face, mirrored}
use Rattle.geometry.specs.Corners.{Digit, d00, d01, d10, d11}
use Rattle.geometry.specs.Cells.{Cell, cell}

-- The table of "The step by digits":
--
--   direction  | stops              | climbs
--   0 left     | 11 to 10, 10 to 01 | 00 to 11, 01 to 00
--   1 right    | 01 to 10, 10 to 11 | 00 to 01, 11 to 00
--   2 vertical | 00 to 10, 10 to 00 | 01, 11 kept
unfoldable pub stops : Side → Digit → Bool
stops left d00 = false
stops left d01 = false
stops left d10 = true
stops left d11 = true
stops right d00 = false
stops right d01 = true
stops right d10 = true
stops right d11 = false
stops vertical d00 = true
stops vertical d01 = false
stops vertical d10 = true
stops vertical d11 = false

unfoldable pub replaced : Side → Digit → Digit
replaced left d00 = d11
replaced left d01 = d00
replaced left d10 = d01
replaced left d11 = d10
replaced right d00 = d01
replaced right d01 = d10
replaced right d10 = d11
replaced right d11 = d00
replaced vertical d00 = d10
replaced vertical d01 = d01
replaced vertical d10 = d00
replaced vertical d11 = d11

-- "From the last digit upwards [..]: a stopping digit is replaced and the walk ends; another is replaced and the walk
-- climbs."
unfoldable pub walked : Side → List Digit → List Digit
walked s [] = []
walked s (d ∷ ds) = replaced s d ∷ (if stops s d then ds else walked s ds)

-- "A walk that passes the first digit crosses a seam [..]."
unfoldable pub crosses : Side → List Digit → Bool
crosses s [] = true
crosses s (d ∷ ds) = not (stops s d) && crosses s ds

-- "Some seams are mirrored: there the original path is taken with every 01 made 11 and every 11 made 01 [..]."
unfoldable pub mirror : Digit → Digit
mirror d00 = d00
mirror d01 = d11
mirror d10 = d10
mirror d11 = d01

-- "inside (0), straight seam (1) or mirrored seam (2)"
pub data Way : Type 0 where
  inside over_straight over_mirrored : Way

abbrev pub way_no : Way → ℕ
way_no inside = 0
way_no over_straight = 1
way_no over_mirrored = 2

abbrev pub flips : Way → Bool
flips inside = false
flips over_straight = false
flips over_mirrored = true

abbrev pub way_of : Bool → Bool → Way
way_of false m = inside
way_of true false = over_straight
way_of true true = over_mirrored

unfoldable pub way : Side → Cell → Way
way s c = way_of (crosses s c.path) (mirrored c.solid s c.face)

-- A walk that crosses a seam "takes the neighbouring face from a table per solid, a row for each direction".
abbrev pub new_face : Way → Side → Solid → ℕ → ℕ
new_face inside s so f = f
new_face over_straight s so f = next_face so s f
new_face over_mirrored s so f = next_face so s f

-- On a mirrored seam the path is mirrored, "in place of the climbing replacements. [..] All other seams use the climbing
-- replacements."
abbrev pub new_path : Way → Side → List Digit → List Digit
new_path inside s ds = walked s ds
new_path over_straight s ds = walked s ds
new_path over_mirrored s ds = map mirror ds

abbrev pub moved : Way → Side → Cell → Cell
moved w s c = cell c.solid (new_face w s c.solid c.face) (new_path w s c.path)

unfoldable pub step : Side → Cell → Cell
step s c = moved (way s c) s c
