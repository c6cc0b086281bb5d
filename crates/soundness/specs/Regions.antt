-- Sets of faces: a number with one bit for each face. The whole solid is the set of all its faces.
--
--   face_at g   == the face on which the place g lies
--   InFaces Q g == the face of the place g is in the set Q
--   all_faces S == all faces of the solid of number S
--   FaceSet S Q == Q is a set of faces of the solid of number S, and not empty
use Rattle.std.specs.Prelude.{◌≡◌, ℕ, ◌-◌, ◌/◌, ◌%◌, ◌^◌, ◌<◌}
use Rattle.solids.specs.Solids.{solid_of, faces}

abbrev pub face_at : ℕ → ℕ
face_at g = g / 2 ^ 52 % 32

unfoldable pub InFaces : ℕ → ℕ → Type 0
InFaces Q g = Q / 2 ^ face_at g % 2 ≡ 1

unfoldable pub all_faces : ℕ → ℕ
all_faces S = 2 ^ faces (solid_of S) - 1

abbrev pub FaceSet : ℕ → ℕ → Type 0
FaceSet S Q = (0 < Q) × (Q < 2 ^ faces (solid_of S))
