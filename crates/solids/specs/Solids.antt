-- The three solids: their faces, their vertices, and how their faces meet.
--
--   Solid            == tetrahedron, octahedron, icosahedron
--   Known s          == the number s names a solid
--   solid_no so      == the number of the solid so
--   solid_of s       == the solid that the number s names
--   faces so         == how many faces it has, counted from 0
--   vertices so      == how many vertices it has, counted from 0
--   Face, face_list  == tip, left and right vertex of a face; the faces of a solid
--   vertex so f p    == the vertex at corner p of face f
--   corner_row so p  == the vertices at corner p, for each face
--   next_row so s    == the next faces over side s, for each face
--   next_face so s f == the face across side s of face f
--   mirrored so s f  == the seam across side s of face f is mirrored
--   SolidTried n r   == r is the solid of number n, or refuses where no solid has it
use Rattle.std.specs.Prelude.{Bool, true, false, ◌||◌, ◌≡◌, Result, MatchResult, List, [], ◌∷◌, ◌++◌, map, ℕ, zero, suc, ◌+◌, ◌≤◌, nat_le, slice_index, slice_index_or}
use Rattle.refusals.specs.declared.Refusal.{Refusal}
use Rattle.refusals.specs.declared.Refusal.TheVariants.{Solid as NoSolid}
use Rattle.solids.specs.declared.Solid.{Solid as SolidType}
use Rattle.solids.specs.declared.Solid.TheVariants.{Tetrahedron, Octahedron, Icosahedron}
use Rattle.solids.specs.Triangles.{Corner, tip, lft, rgt, Side, left, right, vertical}

abbrev pub Solid : Type 0
Solid = SolidType

pattern abbrev pub tetrahedron : Solid
tetrahedron = Tetrahedron

pattern abbrev pub octahedron : Solid
octahedron = Octahedron

pattern abbrev pub icosahedron : Solid
icosahedron = Icosahedron

-- "2 bits solid (1 tetrahedron, 2 octahedron, 3 icosahedron)"
abbrev pub Known : ℕ → Type 0
Known s = (1 ≤ s) × (s ≤ 3)

abbrev pub solid_no : Solid → ℕ
solid_no tetrahedron = 1
solid_no octahedron = 2
solid_no icosahedron = 3

-- of a number that is not known it says nothing: 0 is read as 1, what is above 3 as 3
abbrev pub solid_of : ℕ → Solid
solid_of zero = tetrahedron
solid_of (suc zero) = tetrahedron
solid_of (suc (suc zero)) = octahedron
solid_of (suc (suc (suc n))) = icosahedron

-- "Faces: 4, 8 and 20, counted from 0; each solid carries its own number of faces and number of vertices."
abbrev pub faces : Solid → ℕ
faces tetrahedron = 4
faces octahedron = 8
faces icosahedron = 20

abbrev pub vertices : Solid → ℕ
vertices tetrahedron = 4
vertices octahedron = 6
vertices icosahedron = 12

-- "Faces as (tip, left, right)."
pub record Face : Type 0 where
  pub tip : ℕ
  pub left : ℕ
  pub right : ℕ

abbrev pub face : ℕ → ℕ → ℕ → Face
face t l r = record { tip = t; left = l; right = r }

-- "In the ring formulas i+1 wraps at 4 or 5": a ring of four or five faces, each given by i and the next one, j.
abbrev pub ring4 : (ℕ → ℕ → Face) → List Face
ring4 at = at 0 1 ∷ at 1 2 ∷ at 2 3 ∷ at 3 0 ∷ []

abbrev pub ring5 : (ℕ → ℕ → Face) → List Face
ring5 at = at 0 1 ∷ at 1 2 ∷ at 2 3 ∷ at 3 4 ∷ at 4 0 ∷ []

unfoldable pub face_list : Solid → List Face
face_list tetrahedron = face 2 0 1 ∷ face 1 2 3 ∷ face 3 1 0 ∷ face 0 3 2 ∷ []
face_list octahedron = ring4 (λ i j. face 0 (1 + i) (1 + j)) ++ ring4 (λ i j. face 5 (1 + i) (1 + j))
face_list icosahedron =
    ring5 (λ i j. face 0 (1 + i) (1 + j)) ++
    (ring5 (λ i j. face (6 + i) (1 + i) (1 + j)) ++
    (ring5 (λ i j. face (1 + j) (6 + i) (6 + j)) ++
    ring5 (λ i j. face 11 (6 + i) (6 + j))))

abbrev pub at : Face → Corner → ℕ
at f tip = f.tip
at f lft = f.left
at f rgt = f.right

abbrev pub vertex : Solid → ℕ → Corner → ℕ
vertex so f p = at (slice_index_or (face_list so) f (face 0 0 0)) p

-- the vertices that stand at one corner of the faces
abbrev pub corner_row : Solid → Corner → List ℕ
corner_row so p = map (λ f. at f p) (face_list so)

-- "takes the neighbouring face from a table per solid, a row for each direction"
--
-- tetrahedron: right goes 0, 1, 2, 3, 0; vertical pairs 0 with 2 and 1 with 3
-- octahedron: right goes round 0 to 3 and round 4 to 7; vertical pairs i with 4+i
-- icosahedron: right goes round 0 to 4 and round 15 to 19; 5+i goes to 10+i and 10+i to 5+(i+1);
--     vertical pairs i with 5+i and 10+i with 15+i
unfoldable pub next_row : Solid → Side → List ℕ
next_row tetrahedron left = 3 ∷ 0 ∷ 1 ∷ 2 ∷ []
next_row tetrahedron right = 1 ∷ 2 ∷ 3 ∷ 0 ∷ []
next_row tetrahedron vertical = 2 ∷ 3 ∷ 0 ∷ 1 ∷ []
next_row octahedron left = 3 ∷ 0 ∷ 1 ∷ 2 ∷ 7 ∷ 4 ∷ 5 ∷ 6 ∷ []
next_row octahedron right = 1 ∷ 2 ∷ 3 ∷ 0 ∷ 5 ∷ 6 ∷ 7 ∷ 4 ∷ []
next_row octahedron vertical = 4 ∷ 5 ∷ 6 ∷ 7 ∷ 0 ∷ 1 ∷ 2 ∷ 3 ∷ []
next_row icosahedron left =
    4 ∷ 0 ∷ 1 ∷ 2 ∷ 3 ∷ 14 ∷ 10 ∷ 11 ∷ 12 ∷ 13 ∷ 5 ∷ 6 ∷ 7 ∷ 8 ∷ 9 ∷ 19 ∷ 15 ∷ 16 ∷ 17 ∷ 18 ∷ []
next_row icosahedron right =
    1 ∷ 2 ∷ 3 ∷ 4 ∷ 0 ∷ 10 ∷ 11 ∷ 12 ∷ 13 ∷ 14 ∷ 6 ∷ 7 ∷ 8 ∷ 9 ∷ 5 ∷ 16 ∷ 17 ∷ 18 ∷ 19 ∷ 15 ∷ []
next_row icosahedron vertical =
    5 ∷ 6 ∷ 7 ∷ 8 ∷ 9 ∷ 0 ∷ 1 ∷ 2 ∷ 3 ∷ 4 ∷ 15 ∷ 16 ∷ 17 ∷ 18 ∷ 19 ∷ 10 ∷ 11 ∷ 12 ∷ 13 ∷ 14 ∷ []

abbrev pub next_face : Solid → Side → ℕ → ℕ
next_face so s f = slice_index (next_row so s) f

-- "These are left and right on all octahedron faces and on icosahedron faces 0 to 4 and 15 to 19, and vertical on the
-- tetrahedron."
unfoldable pub mirrored : Solid → Side → ℕ → Bool
mirrored tetrahedron left f = false
mirrored tetrahedron right f = false
mirrored tetrahedron vertical f = true
mirrored octahedron left f = true
mirrored octahedron right f = true
mirrored octahedron vertical f = false
mirrored icosahedron left f = nat_le f 4 || nat_le 15 f
mirrored icosahedron right f = nat_le f 4 || nat_le 15 f
mirrored icosahedron vertical f = false

abbrev pub SolidTried : ℕ → Result Solid Refusal → Type 0
SolidTried n r = MatchResult r (λ so. solid_no so ≡ n) (λ e. (e ≡ NoSolid) × (Known n → ⊥))
