-- The walk of the step by digits, on numbers: digits and paths as the code has them.
--
--   turn_of s d     == what the walk does at the digit d in direction s: it stops or climbs, with that digit
--   Walks s p d r x == of the path of d digits and number p the walk in direction s makes the path of number r, and x tells
--                      whether it passes the first digit
use Rattle.std.specs.Prelude.{Bool, ◌≡◌, ℕ, if◌then◌else◌}
use Rattle.solids.specs.Triangles.{Side}
use Rattle.geometry.specs.Corners.{Digit}
use Rattle.geometry.specs.Paths.{number, digits}
use Rattle.geometry.specs.Steps.{stops, replaced, walked, crosses}
use Rattle.walk.specs.declared.Turn.{Turn}
use Rattle.walk.specs.declared.Turn.TheVariants.{Stop, Climb}

-- The table of "The step by digits":
--
--   direction  | stops              | climbs
--   0 left     | 11 to 10, 10 to 01 | 00 to 11, 01 to 00
--   1 right    | 01 to 10, 10 to 11 | 00 to 01, 11 to 00
--   2 vertical | 00 to 10, 10 to 00 | 01, 11 kept
unfoldable pub turn_of : Side → Digit → Turn
turn_of s d = if stops s d then Stop (replaced s d) else Climb (replaced s d)

-- "From the last digit upwards [..]: a stopping digit is replaced and the walk ends; another is replaced and the walk
-- climbs. [..] A walk that passes the first digit crosses a seam [..]."
pub record Walks (s : Side) (p d r : ℕ) (x : Bool) : Type 0 where
  pub path : r ≡ number (walked s (digits d p))
  pub over : x ≡ crosses s (digits d p)
