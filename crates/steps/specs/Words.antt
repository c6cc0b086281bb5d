-- What either method leaves of a code's path, left-aligned in a word of 64 bits.
--
--   Over x s w b == the walk of x in direction s leaves the word w, and b tells whether it passed the first digit
use Rattle.std.specs.Prelude.{◌≡◌, ℕ, Bool}
use Rattle.solids.specs.Triangles.{Side}
use Rattle.geometry.specs.Steps.{walked, crosses}
use Rattle.codes.specs.Codes.{depth, cell_of}
use Rattle.carry.specs.Carries.{word_of}

pub record Over (x : ℕ) (s : Side) (w : ℕ) (b : Bool) : Type 0 where
  pub path : w ≡ word_of (depth x) (walked s (cell_of x).path)
  pub flag : b ≡ crosses s (cell_of x).path
