-- Cells: the triangles of a solid, at every depth.
--
--   Cell         == a solid, a face and a path
--   WellFormed c == its face is on its solid
--   depth_of c   == its depth, the number of its digits
--   corner c p   == its corner p: twelve weights, one for each vertex that a solid can have
--   child c d    == its child of digit d
--   parent c     == the cell that it is a child of; a face is its own
--   under c es   == the cell that the digits es lead to from c
use Rattle.std.specs.Prelude.{List, [], ◌∷◌, ◌++◌, ℕ, ◌<◌, length}
use Rattle.solids.specs.Solids.{Solid, faces, vertex}
use Rattle.geometry.specs.Weights.{unit}
use Rattle.geometry.specs.Corners.{Digit, Triangle, corners}

pub record Cell : Type 0 where
  pub solid : Solid
  pub face : ℕ
  pub path : List Digit

abbrev pub cell : Solid → ℕ → List Digit → Cell
cell so f ds = record { solid = so; face = f; path = ds }

abbrev pub WellFormed : Cell → Type 0
WellFormed c = c.face < faces c.solid

abbrev pub depth_of : Cell → ℕ
depth_of c = length c.path

-- "A corner is a list of whole weights over the solid's vertices. A face's corners have weight 1 at one vertex."
abbrev pub face_corners : Solid → ℕ → Triangle
face_corners so f p = unit 12 (vertex so f p)

abbrev pub corner : Cell → Triangle
corner c p = corners (face_corners c.solid c.face) c.path p

abbrev pub child : Cell → Digit → Cell
child c d = cell c.solid c.face (d ∷ c.path)

abbrev pub parent_path : List Digit → List Digit
parent_path [] = []
parent_path (d ∷ ds) = ds

abbrev pub parent : Cell → Cell
parent c = cell c.solid c.face (parent_path c.path)

abbrev pub under : Cell → List Digit → Cell
under c es = cell c.solid c.face (es ++ c.path)
