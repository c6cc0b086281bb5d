-- Where a cell's side is part of its parent's side, the parent of the cell across is the cell across from the parent. Such a
-- side is that of a climbing digit: a stopping digit's side begins at a sum with the corner opposite the parent's side, and
-- at some vertex the side's two ends weigh alike and the corner opposite does not.
--
--   opposite s == the corner opposite side s, which is no end of it
--   Sided s P  == a vertex at which the ends of side s of P weigh alike and the corner opposite does not
--
-- Assumes nothing.
use mathlib.Core.Bool.{Bool, true, false, true≢false}
use mathlib.Core.List.{List, [], ◌∷◌}
use mathlib.Core.Logic.{◌≢◌}
use mathlib.Core.Path.{◌≡◌, refl, ap}
use Prim.Native.Nat.{ℕ, ◌+◌}
use native.Mathlib.Omega.{arith}
use lib.ListN.{get_or}
use Rattle.solids.specs.Triangles.{Corner, tip, lft, rgt, Side, left, right, vertical, end₀, end₁}
use Rattle.solids.specs.Solids.{Solid}
use Rattle.geometry.specs.Weights.{◌⊕◌, δ}
use Rattle.geometry.specs.Corners.{Digit, d00, d01, d10, d11, Triangle, child_corners, corners, upright}
use Rattle.geometry.specs.Cells.{Cell, cell, WellFormed, corner, child, parent}
use Rattle.geometry.specs.Steps.{stops, walked, Way, inside, over_straight, over_mirrored, way, moved, step}
use Rattle.geometry.specs.Parts.{end_of, OnSide, Part}
use Rattle.geometry.proofs.Weights.{get_or-⊕, δ_same}
use Rattle.geometry.proofs.Corners.{one, two, child_weight}
use Rattle.geometry.proofs.Faces.{apart, vertex_apart}
use Rattle.geometry.proofs.CornerWeights.{facing, facing_one, vertex_of, up_weight, down_weight}
use Rattle.geometry.proofs.Children.{child_climbs}

abbrev opposite : Side → Corner
opposite left = rgt
opposite right = lft
opposite vertical = tip

opposite_not_end₀ : (s : Side) → end₀ s ≢ opposite s
opposite_not_end₀ left = apart tip rgt refl
opposite_not_end₀ right = apart tip lft refl
opposite_not_end₀ vertical = apart lft tip refl

opposite_not_end₁ : (s : Side) → end₁ s ≢ opposite s
opposite_not_end₁ left = apart lft rgt refl
opposite_not_end₁ right = apart rgt lft refl
opposite_not_end₁ vertical = apart rgt tip refl

record Sided (s : Side) (P : Triangle) : Type 0 where
  v : ℕ
  level : get_or (P (end₁ s)) v 0 ≡ get_or (P (end₀ s)) v 0
  clear : get_or (P (opposite s)) v 0 ≢ get_or (P (end₀ s)) v 0

-- upright: the opposite corner's own vertex; inverted: the vertex that it faces
sided : (s : Side) (c : Cell) → WellFormed c → Sided s (corner c)
sided s c h = go (upright c.path) refl
  where
    vertex_off : (p : Corner) → p ≢ opposite s → δ (vertex_of c p) (vertex_of c (opposite s)) ≡ 0
    vertex_off p n = vertex_apart c.solid c.face h p (opposite s) n

    facing_off : (p : Corner) → p ≢ opposite s → δ (vertex_of c (facing p)) (vertex_of c (facing (opposite s))) ≡ 0
    facing_off p n = vertex_apart c.solid c.face h (facing p) (facing (opposite s)) (λ e. n (facing_one p (opposite s) e))

    go : (up : Bool) → upright c.path ≡ up → Sided s (corner c)
    go true u =
        let v : ℕ = vertex_of c (opposite s) in
        let x = up_weight c h u (end₀ s) v in
        let y = up_weight c h u (end₁ s) v in
        let z = up_weight c h u (opposite s) v in
        let i = vertex_off (end₀ s) (opposite_not_end₀ s) in
        let j = vertex_off (end₁ s) (opposite_not_end₁ s) in
        record { v = v; level = omega arith; clear = omega (arith, δ_same v) }
    go false u =
        let v : ℕ = vertex_of c (facing (opposite s)) in
        let x = down_weight c h u (end₀ s) v in
        let y = down_weight c h u (end₁ s) v in
        let z = down_weight c h u (opposite s) v in
        let i = facing_off (end₀ s) (opposite_not_end₀ s) in
        let j = facing_off (end₁ s) (opposite_not_end₁ s) in
        record { v = v; level = omega arith; clear = omega (arith, δ_same v) }

module _ (P : Triangle) where
  -- a point of the side weighs twice what an end weighs
  side_weight : (s : Side) (k : Sided s P) (X : List ℕ) → OnSide s P X →
      get_or X k.v 0 ≡ get_or (P (end₀ s)) k.v 0 + get_or (P (end₀ s)) k.v 0
  side_weight s k X o =
      rw o.sum (omega (arith, get_or-⊕ (P (end_of o.i s)) (P (end_of o.j s)) k.v, end_weight o.i, end_weight o.j))
    where
      end_weight : (i : Bool) → get_or (P (end_of i s)) k.v 0 ≡ get_or (P (end₀ s)) k.v 0
      end_weight false = refl
      end_weight true = k.level

  -- so a child whose side begins at a sum of an end and the opposite corner has no part of the parent's side
  off_side : (s : Side) (d : Digit) (k : Sided s P) → OnSide s P (child_corners d P (end₀ s)) →
      get_or (P (one d (end₀ s))) k.v 0 + get_or (P (two d (end₀ s))) k.v 0 ≡
      get_or (P (end₀ s)) k.v 0 + get_or (P (opposite s)) k.v 0 → ⊥
  off_side s d k o e =
      k.clear (omega (arith, side_weight s k (child_corners d P (end₀ s)) o, child_weight d P (end₀ s) k.v))

  on_side_climbs : (s : Side) (d : Digit) → Sided s P → OnSide s P (child_corners d P (end₀ s)) → stops s d ≡ false
  unfolding stops
  on_side_climbs left d00 k o = refl
  on_side_climbs left d01 k o = refl
  on_side_climbs left d10 k o = absurd (off_side left d10 k o (omega arith))
  on_side_climbs left d11 k o = absurd (off_side left d11 k o (omega arith))
  on_side_climbs right d00 k o = refl
  on_side_climbs right d01 k o = absurd (off_side right d01 k o (omega arith))
  on_side_climbs right d10 k o = absurd (off_side right d10 k o (omega arith))
  on_side_climbs right d11 k o = refl
  on_side_climbs vertical d00 k o = absurd (off_side vertical d00 k o (omega arith))
  on_side_climbs vertical d01 k o = refl
  on_side_climbs vertical d10 k o = absurd (off_side vertical d10 k o (omega arith))
  on_side_climbs vertical d11 k o = refl

pub part_climbs : (s : Side) (c : Cell) (d : Digit) → WellFormed c → Part s (child c d) → stops s d ≡ false
unfolding corners
part_climbs s c d h w = on_side_climbs (corner c) s d (sided s c h) w.first

-- the converse: a climbing digit's side is part of its parent's
points : (s : Side) (c : Cell) (i j : Bool) → OnSide s (corner c) (corner c (end_of i s) ⊕ corner c (end_of j s))
points s c i j = record { i = i; j = j; sum = refl }

pub climbs_part : (s : Side) (c : Cell) (d : Digit) → stops s d ≡ false → Part s (child c d)
unfolding stops corners
climbs_part left c d00 e = record { first = points left c false false; second = points left c false true }
climbs_part left c d01 e = record { first = points left c false true; second = points left c true true }
climbs_part left c d10 e = absurd (true≢false e)
climbs_part left c d11 e = absurd (true≢false e)
climbs_part right c d00 e = record { first = points right c false false; second = points right c false true }
climbs_part right c d01 e = absurd (true≢false e)
climbs_part right c d10 e = absurd (true≢false e)
climbs_part right c d11 e = record { first = points right c false true; second = points right c true true }
climbs_part vertical c d00 e = absurd (true≢false e)
climbs_part vertical c d01 e = record { first = points vertical c false false; second = points vertical c false true }
climbs_part vertical c d10 e = absurd (true≢false e)
climbs_part vertical c d11 e = record { first = points vertical c false true; second = points vertical c true true }

-- a face is its own parent, and so is the face across
face_across : (s : Side) (so : Solid) (f : ℕ) → parent (step s (cell so f [])) ≡ step s (cell so f [])
unfolding step walked
face_across s so f = go (way s (cell so f []))
  where
    go : (w : Way) → parent (moved w s (cell so f [])) ≡ moved w s (cell so f [])
    go inside = refl
    go over_straight = refl
    go over_mirrored = refl

-- Document 02, request 14: "where a cell's side in one direction is part of its parent's side in that direction, the parent
-- of the cell across is the cell across from the parent."
pub parent_across : (s : Side) (c : Cell) → WellFormed c → Part s c → parent (step s c) ≡ step s (parent c)
parent_across s c h w = go c.path w
  where
    go : (ds : List Digit) → Part s (cell c.solid c.face ds) →
        parent (step s (cell c.solid c.face ds)) ≡ step s (parent (cell c.solid c.face ds))
    go [] w = face_across s c.solid c.face
    go (d ∷ ds) w =
        let b : Cell = cell c.solid c.face ds in
        ap parent (child_climbs s b d (part_climbs s b d h w))
