-- What a corner of a cell weighs at a vertex. Upright: the cell's base, and 1 at the corner's own vertex of the face.
-- Inverted: the base, and 1 at each of the face's vertices but the one that the corner faces. So the corners of a cell are
-- different, a cell weighs only at the vertices of its face, and its base there tells its path.
--
--   facing p      == the corner of the face that corner p of an inverted cell faces
--   vertex_of c p == the vertex at corner p of the cell's face
--   base_at c v   == the base of the cell at the vertex v
--   on_face c v   == how often v stands at a corner of the cell's face: 1 or 0
--
-- Assumes nothing.
use mathlib.Core.Bool.{Bool, true, false}
use mathlib.Core.List.{List}
use mathlib.Core.Path.{◌≡◌, refl, ap, sym, ◌∙◌}
use Prim.Native.Nat.{ℕ, zero, suc, ◌+◌, ◌*◌, ◌<◌, ◌≤◌}
use native.Mathlib.Omega.{arith}
use lib.ListN.{get_or, length}
use Rattle.solids.specs.Triangles.{Corner, tip, lft, rgt}
use Rattle.solids.specs.Solids.{Solid, faces, vertex}
use Rattle.solids.proofs.Seams.{same, vertex_one}
use Rattle.geometry.specs.Weights.{δ}
use Rattle.geometry.specs.Corners.{Digit, upright}
use Rattle.geometry.specs.Cells.{Cell, cell, WellFormed, face_corners, corner}
use Rattle.geometry.proofs.Weights.{get_or-unit, δ_same, δ_eq}
use Rattle.geometry.proofs.Corners.{vertex<12}
use Rattle.geometry.proofs.Faces.{apart, vertex_apart, on}
use Rattle.geometry.proofs.Bases.{offset, base, base_and_offset, base_zero, path_of_base}

abbrev pub facing : Corner → Corner
facing tip = tip
facing lft = rgt
facing rgt = lft

facing_twice : (p : Corner) → facing (facing p) ≡ p
facing_twice tip = refl
facing_twice lft = refl
facing_twice rgt = refl

pub facing_one : (p q : Corner) → facing p ≡ facing q → p ≡ q
facing_one p q e = sym (facing_twice p) ∙ ap facing e ∙ facing_twice q

abbrev pub vertex_of : Cell → Corner → ℕ
vertex_of c p = vertex c.solid c.face p

abbrev pub base_at : Cell → ℕ → ℕ
base_at c v = base c.path (δ (vertex_of c tip) v) (δ (vertex_of c lft) v) (δ (vertex_of c rgt) v)

abbrev pub on_face : Cell → ℕ → ℕ
on_face c v = on c.solid c.face v

module _ (c : Cell) (v : ℕ) where
  abbrev offset_at : Bool → Corner → ℕ
  offset_at up p = offset up p (δ (vertex_of c tip) v) (δ (vertex_of c lft) v) (δ (vertex_of c rgt) v)

  up_offset : (p : Corner) → offset_at true p ≡ δ (vertex_of c p) v
  up_offset tip = refl
  up_offset lft = refl
  up_offset rgt = refl

  down_offset : (p : Corner) → offset_at false p + δ (vertex_of c (facing p)) v ≡ on_face c v
  down_offset tip = omega arith
  down_offset lft = omega arith
  down_offset rgt = omega arith

  -- a cell weighs only at the vertices of its face
  pub on_its_face : 1 ≤ base_at c v + 2 * on_face c v → 1 ≤ on_face c v
  on_its_face h = go (on_face c v) refl
    where
      go : (n : ℕ) → on_face c v ≡ n → 1 ≤ on_face c v
      go zero e = omega (arith, base_zero c.path (δ (vertex_of c tip) v) (δ (vertex_of c lft) v) (δ (vertex_of c rgt) v) e)
      go (suc n) e = omega arith

module _ (c : Cell) (h : WellFormed c) where
  weight : (p : Corner) (v : ℕ) → get_or (corner c p) v 0 ≡ base_at c v + offset_at c v (upright c.path) p
  weight p v =
      rw (
        ← get_or-unit 12 (vertex_of c tip) v (vertex<12 c.solid c.face h tip),
        ← get_or-unit 12 (vertex_of c lft) v (vertex<12 c.solid c.face h lft),
        ← get_or-unit 12 (vertex_of c rgt) v (vertex<12 c.solid c.face h rgt),
      )
      (base_and_offset (face_corners c.solid c.face) v c.path p)

  pub up_weight : upright c.path ≡ true → (p : Corner) (v : ℕ) → get_or (corner c p) v 0 ≡ base_at c v + δ (vertex_of c p) v
  up_weight u p v = rw (weight p v, u, up_offset c v p)

  pub down_weight : upright c.path ≡ false → (p : Corner) (v : ℕ) →
      get_or (corner c p) v 0 + δ (vertex_of c (facing p)) v ≡ base_at c v + on_face c v
  down_weight u p v = rw (weight p v, u) (omega (arith, down_offset c v p))

  -- the corners of a cell are different: look at one vertex
  pub place_single : (p q : Corner) → corner c p ≡ corner c q → p ≡ q
  place_single p q e = go (upright c.path) refl
    where
      alike : (v : ℕ) → get_or (corner c p) v 0 ≡ get_or (corner c q) v 0
      alike v = rw e

      go : (up : Bool) → upright c.path ≡ up → p ≡ q
      go true u =
          let v : ℕ = vertex_of c q in
          vertex_one c.solid c.face h p q
          (δ_eq (vertex_of c p) v (omega (arith, alike v, up_weight u p v, up_weight u q v, δ_same v)))
      go false u =
          let v : ℕ = vertex_of c (facing q) in
          facing_one p q (vertex_one c.solid c.face h (facing p) (facing q)
          (δ_eq (vertex_of c (facing p)) v (omega (arith, alike v, down_weight u p v, down_weight u q v, δ_same v))))

-- two cells of one face and depth with one base are one
pub path_of_bases : (so : Solid) (f : ℕ) (ds es : List Digit) → f < faces so → length ds ≡ length es →
    ((v : ℕ) → base_at (cell so f ds) v ≡ base_at (cell so f es) v) → ds ≡ es
path_of_bases so f ds es h n e =
    path_of_base ds es n
    (rw (δ_same (vertex so f tip), other lft tip refl, other rgt tip refl) at (e (vertex so f tip)))
    (rw (other tip lft refl, δ_same (vertex so f lft), other rgt lft refl) at (e (vertex so f lft)))
    (rw (other tip rgt refl, other lft rgt refl, δ_same (vertex so f rgt)) at (e (vertex so f rgt)))
  where
    other : (p q : Corner) → same p q ≡ false → δ (vertex so f p) (vertex so f q) ≡ 0
    other p q e = vertex_apart so f h p q (apart p q e)
