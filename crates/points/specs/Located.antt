-- What locating a point answers, for any numbers.
--
--   found_cell s f t l r d == the cell that the way down leads to
--   Located s f t l r d a  == a is the reply for locating at depth d the point of solid s, face f, weights t, l, r
--   Least s f d X x        == x is the least code of that solid, face and depth whose cell holds the point X
--
use Rattle.std.specs.Prelude.{◌≡◌, ℕ, ◌+◌, ◌^◌, ◌<◌, ◌≤◌}
use Rattle.solids.specs.Solids.{Known, solid_of, faces}
use Rattle.refusals.specs.Refusals.{SOLID, FACE, DEPTH, POINT, need}
use Rattle.refusals.specs.Answers.{Reply, done, refused}
use Rattle.geometry.specs.Cells.{Cell, cell}
use Rattle.codes.specs.Codes.{solid, face, depth, IsCode, cell_of, code_of}
use Rattle.points.specs.Points.{weights, path_to, Holds}

-- "The point's own face is used."
abbrev pub found_cell : ℕ → ℕ → ℕ → ℕ → ℕ → ℕ → Cell
found_cell s f t l r d = cell (solid_of s) f (path_to (weights t l r) d)

-- "Point: 1, 2, 3, 9."
abbrev pub Located : ℕ → ℕ → ℕ → ℕ → ℕ → ℕ → Reply → Type 0
Located s f t l r d =
    need (Known s) (refused SOLID)
    (need (f < faces (solid_of s)) (refused FACE)
    (need (d ≤ 26) (refused DEPTH)
    (need (t + l + r ≡ 2 ^ 26) (refused POINT)
    (λ a. a ≡ done (code_of (found_cell s f t l r d))))))

pub record On (s f d x : ℕ) : Type 0 where
  pub code : IsCode x
  pub solid_is : solid x ≡ s
  pub face_is : face x ≡ f
  pub depth_is : depth x ≡ d

pub record Least (s f d : ℕ) (X : ℕ → ℕ) (x : ℕ) : Type 0 where
  pub on : On s f d x
  pub holds : Holds (cell_of x) X
  pub least : (y : ℕ) → On s f d y → Holds (cell_of y) X → x ≤ y
