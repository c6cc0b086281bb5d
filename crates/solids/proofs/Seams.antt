-- The rows agree with the vertices at the faces' corners: one test, computed over every face, corner and side of each solid.
--
--   to₀ m s, to₁ m s            == where the ends of side s stand in the triangle across, over a straight (m false) or mirrored seam
--   agree so                    == the test
--   vertex<, vertex_one, joined == what it says of a face's corners and of its seams
--
-- Assumes nothing.
use mathlib.Core.Bool.{Bool, true, false, ◌&&◌, not}
use mathlib.Core.Logic.{◌≢◌}
use mathlib.Core.Path.{◌≡◌, refl}
use Prim.Native.Nat.{ℕ, ◌<◌}
use lib.Dec.{T, ltb, eqb, ltb→lt, eqb→eq, T_not}
use Rattle.solids.specs.Triangles.{Corner, tip, lft, rgt, Side, left, right, vertical, end₀, end₁, back}
use Rattle.solids.specs.Solids.{Solid, tetrahedron, octahedron, icosahedron, faces, vertices, face_list, vertex, next_row, next_face, mirrored}
use Rattle.solids.specs.Seams.{Seam}
use Rattle.solids.proofs.Tests.{and_l, and_r, eq_eqb, below, below_at, corners_all, corners_at, sides_all, sides_at}

abbrev pub to₀ : Bool → Side → Corner
to₀ false left = rgt
to₀ false right = lft
to₀ false vertical = lft
to₀ true left = tip
to₀ true right = tip
to₀ true vertical = rgt

abbrev pub to₁ : Bool → Side → Corner
to₁ false left = tip
to₁ false right = tip
to₁ false vertical = rgt
to₁ true left = rgt
to₁ true right = lft
to₁ true vertical = lft

abbrev pub same : Corner → Corner → Bool
same tip tip = true
same tip lft = false
same tip rgt = false
same lft tip = false
same lft lft = true
same lft rgt = false
same rgt tip = false
same rgt lft = false
same rgt rgt = true

same_eq : (p q : Corner) → T (same p q) → p ≡ q
same_eq tip tip h = refl
same_eq tip lft h = absurd h
same_eq tip rgt h = absurd h
same_eq lft tip h = absurd h
same_eq lft lft h = refl
same_eq lft rgt h = absurd h
same_eq rgt tip h = absurd h
same_eq rgt lft h = absurd h
same_eq rgt rgt h = refl

alike : Bool → Bool → Bool
alike true b = b
alike false b = not b

alike_eq : (a b : Bool) → T (alike a b) → a ≡ b
unfolding alike
alike_eq true true h = refl
alike_eq true false h = absurd h
alike_eq false true h = absurd h
alike_eq false false h = refl

-- the vertex at corner p is one of the solid's, and it stands at no other corner
abbrev corner_test : Solid → ℕ → Corner → Corner → Bool
corner_test so f p q = ltb (vertex so f p) (vertices so) && alike (eqb (vertex so f p) (vertex so f q)) (same p q)

-- the next face g over side s: another face, with the side's ends where the seam has them, and the same seam seen from g
abbrev seam_test : Solid → ℕ → Side → ℕ → Bool
seam_test so f s g =
    ltb g (faces so) && not (eqb g f) &&
    eqb (vertex so g (to₀ (mirrored so s f) s)) (vertex so f (end₀ s)) &&
    eqb (vertex so g (to₁ (mirrored so s f) s)) (vertex so f (end₁ s)) &&
    eqb (next_face so (back s) g) f && alike (mirrored so (back s) g) (mirrored so s f)

abbrev face_test : Solid → ℕ → Bool
face_test so f =
    corners_all (λ p. corners_all (λ q. corner_test so f p q)) && sides_all (λ s. seam_test so f s (next_face so s f))

abbrev agree : Solid → Bool
agree so = below (face_test so) (faces so)

rows_agree : (so : Solid) → T (agree so)
unfolding face_list next_row mirrored alike
rows_agree tetrahedron = tt
rows_agree octahedron = tt
rows_agree icosahedron = tt

-- what the test says of side s of face f
pub record Joined (so : Solid) (f : ℕ) (s : Side) : Type 0 where
  pub there : next_face so s f < faces so
  pub other : next_face so s f ≢ f
  pub meet₀ : vertex so (next_face so s f) (to₀ (mirrored so s f) s) ≡ vertex so f (end₀ s)
  pub meet₁ : vertex so (next_face so s f) (to₁ (mirrored so s f) s) ≡ vertex so f (end₁ s)
  pub returns : next_face so (back s) (next_face so s f) ≡ f
  pub kind : mirrored so (back s) (next_face so s f) ≡ mirrored so s f

module _ (so : Solid) (f : ℕ) (h : f < faces so) where
  corners : Bool
  corners = corners_all (λ p. corners_all (λ q. corner_test so f p q))

  seams : Bool
  seams = sides_all (λ s. seam_test so f s (next_face so s f))

  corner_passed : (p q : Corner) → T (corner_test so f p q)
  unfolding corners seams
  corner_passed p q =
      corners_at (λ q. corner_test so f p q)
      (corners_at (λ p. corners_all (λ q. corner_test so f p q)) (and_l corners seams (below_at (face_test so) (faces so) (rows_agree so) f h)) p) q

  seam_passed : (s : Side) → T (seam_test so f s (next_face so s f))
  unfolding corners seams
  seam_passed = sides_at (λ s. seam_test so f s (next_face so s f)) (and_r corners seams (below_at (face_test so) (faces so) (rows_agree so) f h))

  -- the vertex at a corner is one of the solid's
  pub vertex< : (p : Corner) → vertex so f p < vertices so
  vertex< p = let t : T (corner_test so f p p) = corner_passed p p in ltb→lt _ _ (search and_l)

  -- different corners of a face have different vertices
  pub vertex_same : (p q : Corner) → eqb (vertex so f p) (vertex so f q) ≡ same p q
  vertex_same p q = let t : T (corner_test so f p q) = corner_passed p q in alike_eq _ _ (search (and_l, and_r))

  pub vertex_one : (p q : Corner) → vertex so f p ≡ vertex so f q → p ≡ q
  vertex_one p q e = same_eq p q (rw (← vertex_same p q) (eq_eqb _ _ e))

  pub joined : (s : Side) → Joined so f s
  joined s =
      let t : T (seam_test so f s (next_face so s f)) = seam_passed s in
      record {
        there = ltb→lt _ _ (search (and_l, and_r));
        other = λ e. T_not (eqb (next_face so s f) f) (search (and_l, and_r)) (eq_eqb _ _ e);
        meet₀ = eqb→eq _ _ (search (and_l, and_r));
        meet₁ = eqb→eq _ _ (search (and_l, and_r));
        returns = eqb→eq _ _ (search (and_l, and_r));
        kind = alike_eq _ _ (search (and_l, and_r));
      }

-- the rows agree with the corner vertices, in the words of specs/Seams
pub every_seam : (so : Solid) (s : Side) (f : ℕ) → f < faces so → Seam so s f
every_seam so s f h =
    let j = joined so f h s in
    record {
      there = j.there;
      other = j.other;
      first = record { corner = to₀ (mirrored so s f) s; is = j.meet₀ };
      second = record { corner = to₁ (mirrored so s f) s; is = j.meet₁ };
      returns = j.returns;
    }
