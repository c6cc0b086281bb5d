-- Faces are known by their vertices: a face's three vertices are different, no other face has all three, and only the face
-- across a side has both of that side's. One test, computed over every two faces of each solid.
--
--   on so f v == how often the vertex v stands at a corner of face f: 1 or 0
--
-- Assumes nothing.
use mathlib.Core.Bool.{Bool, true, false, ◌&&◌, ◌||◌, not, true≢false}
use mathlib.Core.Logic.{◌≢◌, ◌⊎◌, inl, inr}
use mathlib.Core.Path.{◌≡◌, refl, ap, sym, ◌∙◌}
use Prim.Native.Nat.{ℕ, ◌+◌, ◌<◌, ◌≤◌}
use native.Mathlib.Omega.{arith}
use lib.Dec.{T, leb, eqb, le→leb, eqb→eq}
use lib.ListN.{get_or}
use Rattle.solids.specs.Triangles.{Corner, tip, lft, rgt, Side, end₀, end₁}
use Rattle.solids.specs.Solids.{Solid, tetrahedron, octahedron, icosahedron, faces, face_list, vertex, next_row, next_face}
use Rattle.solids.proofs.Tests.{and_l, and_r, and_i, or_cases, implies, below, below_at, corners_all, sides_all, sides_at}
use Rattle.solids.proofs.Seams.{same, vertex_one}
use Rattle.geometry.specs.Weights.{δ}
use Rattle.geometry.specs.Cells.{face_corners}
use Rattle.geometry.proofs.Weights.{get_or-unit, δ_same, δ_other}
use Rattle.geometry.proofs.Corners.{vertex<12}

-- the corners of a triangle are three: `apart tip lft refl`
pub apart : (p q : Corner) → same p q ≡ false → p ≢ q
apart p q e r = true≢false (sym (same_self q) ∙ ap (λ (x : Corner). same x q) (sym r) ∙ e)
  where
    same_self : (q : Corner) → same q q ≡ true
    same_self tip = refl
    same_self lft = refl
    same_self rgt = refl

-- and so are the vertices at the corners of a face
pub vertex_apart : (so : Solid) (f : ℕ) → f < faces so → (p q : Corner) → p ≢ q → δ (vertex so f p) (vertex so f q) ≡ 0
vertex_apart so f h p q n = δ_other (vertex so f p) (vertex so f q) (λ e. n (vertex_one so f h p q e))

-- so a face's corner weighs 1 at its own vertex, and nothing at those of the other two
pub own_weight : (so : Solid) (f : ℕ) → f < faces so → (p : Corner) → get_or (face_corners so f p) (vertex so f p) 0 ≡ 1
own_weight so f h p = get_or-unit 12 (vertex so f p) (vertex so f p) (vertex<12 so f h p) ∙ δ_same (vertex so f p)

pub no_weight : (so : Solid) (f : ℕ) → f < faces so → (p q : Corner) → same p q ≡ false → ◌≡◌ {A = ℕ} (get_or (face_corners so f p) (vertex so f q) 0) 0
no_weight so f h p q e = get_or-unit 12 (vertex so f p) (vertex so f q) (vertex<12 so f h p) ∙ vertex_apart so f h p q (apart p q e)

abbrev pub on : Solid → ℕ → ℕ → ℕ
on so f v = δ (vertex so f tip) v + δ (vertex so f lft) v + δ (vertex so f rgt) v

pub δ≤on : (so : Solid) (f v : ℕ) (p : Corner) → δ (vertex so f p) v ≤ on so f v
δ≤on so f v tip = omega arith
δ≤on so f v lft = omega arith
δ≤on so f v rgt = omega arith

-- the vertex at a corner of a face is on the face
pub corner_on : (so : Solid) (f v : ℕ) (p : Corner) → vertex so f p ≡ v → 1 ≤ on so f v
corner_on so f v p e = omega (arith, δ≤on so f v p, δ_same v, ap (λ (w : ℕ). δ w v) e)

-- face f has all three vertices of face g
abbrev all_three : Solid → ℕ → ℕ → Bool
all_three so f g = corners_all (λ p. leb 1 (on so f (vertex so g p)))

-- face g has both end vertices of side s of face f
abbrev both_ends : Solid → ℕ → ℕ → Side → Bool
both_ends so f g s = leb 1 (on so g (vertex so f (end₀ s))) && leb 1 (on so g (vertex so f (end₁ s)))

-- then g is f, or the next face over that side
abbrev side_test : Solid → ℕ → ℕ → Side → Bool
side_test so f g s = not (both_ends so f g s) || (eqb g f || eqb g (next_face so s f))

-- the test of two faces
abbrev pair_test : Solid → ℕ → ℕ → Bool
pair_test so f g = (not (all_three so f g) || eqb g f) && sides_all (side_test so f g)

abbrev face_test : Solid → ℕ → Bool
face_test so f = below (pair_test so f) (faces so)

known_by_vertices : (so : Solid) → T (below (face_test so) (faces so))
unfolding face_list next_row δ
known_by_vertices tetrahedron = tt
known_by_vertices octahedron = tt
known_by_vertices icosahedron = tt

module _ (so : Solid) (f g : ℕ) (h : f < faces so) (k : g < faces so) where
  passed : T (pair_test so f g)
  passed = below_at (pair_test so f) (faces so) (below_at (face_test so) (faces so) (known_by_vertices so) f h) g k

  pub one_face : ((p : Corner) → 1 ≤ on so f (vertex so g p)) → g ≡ f
  one_face l =
      eqb→eq g f
      (implies (all_three so f g) (eqb g f) (and_l (not (all_three so f g) || eqb g f) (sides_all (side_test so f g)) passed)
      (search (and_i, le→leb, l)))

  pub two_faces : (s : Side) → 1 ≤ on so g (vertex so f (end₀ s)) → 1 ≤ on so g (vertex so f (end₁ s)) →
      (g ≡ f) ⊎ (g ≡ next_face so s f)
  two_faces s a b =
      go (or_cases (eqb g f) (eqb g (next_face so s f))
      (implies (both_ends so f g s) (eqb g f || eqb g (next_face so s f))
      (sides_at (side_test so f g) (and_r (not (all_three so f g) || eqb g f) (sides_all (side_test so f g)) passed) s)
      (search (and_i, le→leb))))
    where
      go : T (eqb g f) ⊎ T (eqb g (next_face so s f)) → (g ≡ f) ⊎ (g ≡ next_face so s f)
      go (inl t) = inl (eqb→eq g f t)
      go (inr t) = inr (eqb→eq g (next_face so s f) t)
