-- What the step by carries gives, on a path that stands left-aligned in a word of 64 bits, its first digit in the top two.
--
--   digits_of d w           == the first d digits of the word w
--   word_of d ds            == the word of a path ds of d digits
--   Carries s d w path lost == of the word w of a path of d digits the walk in direction s makes the word path, and lost
--                              tells whether it passes the first digit
--   Mirrors w path          == the word path has the digits of the word w mirrored, at every depth that w can have
use Rattle.std.specs.Prelude.{◌≡◌, ℕ, ◌-◌, ◌*◌, ◌/◌, ◌%◌, ◌^◌, ◌≤◌, Bool, List, map}
use Rattle.solids.specs.Triangles.{Side}
use Rattle.geometry.specs.Corners.{Digit}
use Rattle.geometry.specs.Paths.{number, digits}
use Rattle.geometry.specs.Steps.{walked, crosses, mirror}

-- a word has 32 digits: 32 - d of them stand after the last of the path
abbrev pub digits_of : ℕ → ℕ → List Digit
digits_of d w = digits d (w / 4 ^ (32 - d))

abbrev pub word_of : ℕ → List Digit → ℕ
word_of d ds = number ds * 4 ^ (32 - d)

-- "The second method works on the whole path at once, by masks that mark digit pairs and an addition whose carry is allowed
-- to run off the top. It has no loop over digits."
pub record Carries (s : Side) (d w path : ℕ) (lost : Bool) : Type 0 where
  pub arrives : path ≡ word_of d (walked s (digits_of d w))
  pub over : lost ≡ crosses s (digits_of d w)

-- "[..] the original path is taken with every 01 made 11 and every 11 made 01 [..]."
abbrev pub Mirrors : ℕ → ℕ → Type 0
Mirrors w path = (d : ℕ) → d ≤ 26 → w % 4 ^ (32 - d) ≡ 0 → path ≡ word_of d (map mirror (digits_of d w))
