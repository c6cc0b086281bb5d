-- The rows of a solid: each has a number for each face, and the bits of mirrored seams are those of the code.
use mathlib.Core.Bool.{Bool, ◌&&◌, ◌||◌}
use mathlib.Core.List.{List, [], ◌∷◌, map}
use mathlib.Core.Path.{◌≡◌, refl}
use Prim.Native.Nat.{ℕ, zero, suc, ◌+◌, ◌*◌, ◌/◌, ◌^◌, ◌<◌}
use native.Mathlib.Omega.{arith}
use lib.Bits.{bit_and}
use lib.Dec.{eqb, ltb, leb}
use lib.ListN.{length, get_or}
use Rattle.solids.specs.Triangles.{Side, left, right, vertical, side_no, Corner}
use Rattle.solids.specs.Solids.{Solid, solid_no, tetrahedron, octahedron, icosahedron, faces, face, face_list, at, corner_row, vertex, next_row, mirrored}

pub corner_row_long : (so : Solid) (p : Corner) → length (corner_row so p) ≡ faces so
unfolding face_list
corner_row_long tetrahedron p = refl
corner_row_long octahedron p = refl
corner_row_long icosahedron p = refl

pub next_row_long : (so : Solid) (s : Side) → length (next_row so s) ≡ faces so
unfolding next_row
next_row_long tetrahedron left = refl
next_row_long tetrahedron right = refl
next_row_long tetrahedron vertical = refl
next_row_long octahedron left = refl
next_row_long octahedron right = refl
next_row_long octahedron vertical = refl
next_row_long icosahedron left = refl
next_row_long icosahedron right = refl
next_row_long icosahedron vertical = refl

map_read : {A B : Type 0} (g : A → B) (z : A) (xs : List A) (k : ℕ) → k < length xs → (y : B) → get_or (map g xs) k y ≡ g (get_or xs k z)
map_read g z [] k h y = absurd (omega arith)
map_read g z (x ∷ xs) zero h y = refl
map_read g z (x ∷ xs) (suc k) h y = map_read g z xs k (omega arith) y

face_count : (so : Solid) → length (face_list so) ≡ faces so
unfolding face_list
face_count tetrahedron = refl
face_count octahedron = refl
face_count icosahedron = refl

pub vertex_read : (so : Solid) (f : ℕ) (p : Corner) → f < faces so → get_or (corner_row so p) f 0 ≡ vertex so f p
vertex_read so f p h = map_read (λ x. at x p) (face 0 0 0) (face_list so) f (rw (face_count so) h) 0

abbrev pub is_mirrored : Solid → Side → ℕ → Bool
is_mirrored so s f = eqb (bit_and (0b011_011_100_000 / 2 ^ (3 * solid_no so + side_no s)) 1) 1 && (ltb (solid_no so) 3 || leb f 4 || leb 15 f)

pub seam_told : (so : Solid) (s : Side) (f : ℕ) → is_mirrored so s f ≡ mirrored so s f
unfolding mirrored
seam_told tetrahedron left f = refl
seam_told tetrahedron right f = refl
seam_told tetrahedron vertical f = refl
seam_told octahedron left f = refl
seam_told octahedron right f = refl
seam_told octahedron vertical f = refl
seam_told icosahedron left f = refl
seam_told icosahedron right f = refl
seam_told icosahedron vertical f = refl
