-- The corners of a triangle's children, and of the cell that a path of digits leads to.
--
--   Digit             == which child: d00, d01, d10, d11
--   Triangle          == three corners, each a list of weights
--   child_corners d P == the corners of child d of the triangle P
--   corners P ds      == the corners of the cell that the path ds leads to from P
--   upright ds        == that cell has P's own way up, and not the other
--
-- A path is a list of digits with its LAST digit first: a cell's parent is the rest of the list.
use Rattle.std.specs.Prelude.{Bool, true, not, List, [], ◌∷◌, ℕ}
use Rattle.solids.specs.Triangles.{Corner, tip, lft, rgt}
use Rattle.geometry.specs.declared.Digit.{Digit as DigitType}
use Rattle.geometry.specs.declared.Digit.TheVariants.{Tip, Left, Centre, Right}
use Rattle.geometry.specs.Weights.{◌⊕◌}

abbrev pub Digit : Type 0
Digit = DigitType

pattern abbrev pub d00 : Digit
d00 = Tip

pattern abbrev pub d01 : Digit
d01 = Left

pattern abbrev pub d10 : Digit
d10 = Centre

pattern abbrev pub d11 : Digit
d11 = Right

abbrev pub Triangle : Type 0
Triangle = Corner → List ℕ

-- "The children of (T, L, R), by sums of lists":
--
--   digit | tip | left | right
--   00    | T+T | T+L  | T+R
--   01    | T+L | L+L  | L+R
--   10    | L+R | T+L  | T+R
--   11    | T+R | L+R  | R+R
abbrev pub child_corners : Digit → Triangle → Triangle
child_corners d00 P tip = P tip ⊕ P tip
child_corners d00 P lft = P tip ⊕ P lft
child_corners d00 P rgt = P tip ⊕ P rgt
child_corners d01 P tip = P tip ⊕ P lft
child_corners d01 P lft = P lft ⊕ P lft
child_corners d01 P rgt = P lft ⊕ P rgt
child_corners d10 P tip = P lft ⊕ P rgt
child_corners d10 P lft = P tip ⊕ P lft
child_corners d10 P rgt = P tip ⊕ P rgt
child_corners d11 P tip = P tip ⊕ P rgt
child_corners d11 P lft = P lft ⊕ P rgt
child_corners d11 P rgt = P rgt ⊕ P rgt

unfoldable pub corners : Triangle → List Digit → Triangle
corners P [] p = P p
corners P (d ∷ ds) p = child_corners d (corners P ds) p

-- the child in the middle, 10, is turned over
abbrev pub turned_by : Digit → Bool → Bool
turned_by d00 up = up
turned_by d01 up = up
turned_by d10 up = not up
turned_by d11 up = up

unfoldable pub upright : List Digit → Bool
upright [] = true
upright (d ∷ ds) = turned_by d (upright ds)
