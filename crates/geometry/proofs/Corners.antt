-- Laws of corners: a child's corner is the sum of two corners of its parent; the weights of a corner at depth d sum to 2 ^ d.
--
--   one d p, two d p == the two corners of the parent that are summed at corner p of child d
--
-- Assumes nothing.
use mathlib.Core.List.{List, [], ◌∷◌}
use mathlib.Core.Path.{◌≡◌, refl, ap, ap₂, sym, ◌∙◌}
use Prim.Native.Nat.{ℕ, ◌+◌, ◌^◌, ◌<◌, ◌≤◌}
use native.Mathlib.Nat.{pow-suc}
use native.Mathlib.Omega.{arith}
use lib.ListN.{length, get_or}
use Rattle.solids.specs.Triangles.{Corner, tip, lft, rgt}
use Rattle.solids.specs.Solids.{Solid, tetrahedron, octahedron, icosahedron, faces, vertices, vertex}
use Rattle.solids.proofs.Seams.{vertex<}
use Rattle.geometry.specs.Weights.{◌⊕◌, total}
use Rattle.geometry.specs.Corners.{Digit, d00, d01, d10, d11, Triangle, child_corners, corners}
use Rattle.geometry.specs.Cells.{Cell, WellFormed, depth_of, face_corners, corner}
use Rattle.geometry.proofs.Weights.{get_or-⊕, length-⊕, total-⊕, length-unit, total_unit}

abbrev pub one : Digit → Corner → Corner
one d00 tip = tip
one d00 lft = tip
one d00 rgt = tip
one d01 tip = tip
one d01 lft = lft
one d01 rgt = lft
one d10 tip = lft
one d10 lft = tip
one d10 rgt = tip
one d11 tip = tip
one d11 lft = lft
one d11 rgt = rgt

abbrev pub two : Digit → Corner → Corner
two d00 tip = tip
two d00 lft = lft
two d00 rgt = rgt
two d01 tip = lft
two d01 lft = lft
two d01 rgt = rgt
two d10 tip = rgt
two d10 lft = lft
two d10 rgt = rgt
two d11 tip = rgt
two d11 lft = rgt
two d11 rgt = rgt

pub child_sum : (d : Digit) (P : Triangle) (p : Corner) → child_corners d P p ≡ P (one d p) ⊕ P (two d p)
child_sum d00 P tip = refl
child_sum d00 P lft = refl
child_sum d00 P rgt = refl
child_sum d01 P tip = refl
child_sum d01 P lft = refl
child_sum d01 P rgt = refl
child_sum d10 P tip = refl
child_sum d10 P lft = refl
child_sum d10 P rgt = refl
child_sum d11 P tip = refl
child_sum d11 P lft = refl
child_sum d11 P rgt = refl

-- a child's corner, place by place
pub child_weight : (d : Digit) (P : Triangle) (p : Corner) (v : ℕ) → get_or (child_corners d P p) v 0 ≡ get_or (P (one d p)) v 0 + get_or (P (two d p)) v 0
child_weight d P p v = rw (child_sum d P p) (get_or-⊕ (P (one d p)) (P (two d p)) v)

-- the children of triangles that are alike are alike
pub child_alike : (d : Digit) (P Q : Triangle) → ((p : Corner) → P p ≡ Q p) → (p : Corner) → child_corners d P p ≡ child_corners d Q p
child_alike d P Q h p = child_sum d P p ∙ ap₂ ◌⊕◌ (h (one d p)) (h (two d p)) ∙ sym (child_sum d Q p)

corners_total : (P : Triangle) → ((p : Corner) → total (P p) ≡ 1) → (ds : List Digit) (p : Corner) → total (corners P ds p) ≡ 2 ^ length ds
unfolding corners
corners_total P h [] p = h p
corners_total P h (d ∷ ds) p =
    omega (
      arith,
      ap total (child_sum d (corners P ds) p),
      total-⊕ (corners P ds (one d p)) (corners P ds (two d p)),
      corners_total P h ds (one d p),
      corners_total P h ds (two d p),
      pow-suc 2 (length ds),
    )

corners_length : (P : Triangle) → ((p : Corner) → length (P p) ≡ 12) → (ds : List Digit) (p : Corner) → length (corners P ds p) ≡ 12
unfolding corners
corners_length P h [] p = h p
corners_length P h (d ∷ ds) p =
    ap length (child_sum d (corners P ds) p)
    ∙ length-⊕ 12 (corners P ds (one d p)) (corners P ds (two d p)) (corners_length P h ds (one d p)) (corners_length P h ds (two d p))

twelve_vertices : (so : Solid) → vertices so ≤ 12
twelve_vertices tetrahedron = omega arith
twelve_vertices octahedron = omega arith
twelve_vertices icosahedron = omega arith

pub vertex<12 : (so : Solid) (f : ℕ) → f < faces so → (p : Corner) → vertex so f p < 12
vertex<12 so f h p = omega (arith, vertex< so f h p, twelve_vertices so)

-- a corner has twelve weights
pub twelve : (c : Cell) (p : Corner) → length (corner c p) ≡ 12
twelve c p = corners_length (face_corners c.solid c.face) (λ q. length-unit 12 (vertex c.solid c.face q)) c.path p

-- "Weights at depth d sum to 2^d."
pub weights_sum : (c : Cell) → WellFormed c → (p : Corner) → total (corner c p) ≡ 2 ^ depth_of c
weights_sum c h p =
    corners_total (face_corners c.solid c.face)
    (λ q. total_unit 12 (vertex c.solid c.face q) (vertex<12 c.solid c.face h q)) c.path p
