-- What the rows have to agree with: the vertices at the faces' corners.
--
--   HasVertex so g v == the vertex v stands at a corner of face g
--   Seam so s f      == the next face over side s of face f is another face, it has both end vertices of that side, and
--                       the way back leads to f
use Rattle.std.specs.Prelude.{◌≢◌, ◌≡◌, ℕ, ◌<◌}
use Rattle.solids.specs.Triangles.{Corner, Side, end₀, end₁, back}
use Rattle.solids.specs.Solids.{Solid, faces, vertex, next_face}

pub record HasVertex (so : Solid) (g v : ℕ) : Type 0 where
  pub corner : Corner
  pub is : vertex so g corner ≡ v

pub record Seam (so : Solid) (s : Side) (f : ℕ) : Type 0 where
  pub there : next_face so s f < faces so
  pub other : next_face so s f ≢ f
  pub first : HasVertex so (next_face so s f) (vertex so f (end₀ s))
  pub second : HasVertex so (next_face so s f) (vertex so f (end₁ s))
  pub returns : next_face so (back s) (next_face so s f) ≡ f
