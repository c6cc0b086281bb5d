-- Each corner has weight 1 at the vertex that the table of faces gives.
use native.Mathlib.Omega.{arith}
use Rattle.solids.specs.Triangles.{tip, lft, rgt}
use Rattle.geometry.proofs.Corners.{vertex<12}
use Rattle.corners.proofs.of_face.Goals as goal

pub at_vertex-requires : goal.at_vertex-requires
at_vertex-requires c = let a = c.args in omega (arith, c.vertex.ensures, vertex<12 a.solid a.face c.requires tip)

pub at_vertex-requires-2 : goal.at_vertex-requires-2
at_vertex-requires-2 c = let a = c.args in omega (arith, c.vertex-2.ensures, vertex<12 a.solid a.face c.requires lft)

pub at_vertex-requires-3 : goal.at_vertex-requires-3
at_vertex-requires-3 c = let a = c.args in omega (arith, c.vertex-3.ensures, vertex<12 a.solid a.face c.requires rgt)
