-- Two cells of one solid and depth that share two corners. If both are inverted they are one cell; if one is upright and
-- one is inverted they lie on one face; if both are upright, each has its two corners' vertices on the other's face, and
-- on one face they are one cell.
--
--   Both so A B f ds == the cell of face f and path ds has the corners A and B
--
-- Assumes nothing.
use mathlib.Core.Bool.{true, false}
use mathlib.Core.List.{List}
use mathlib.Core.Logic.{◌≢◌}
use mathlib.Core.Path.{◌≡◌, ap, ap₂, sym}
use Prim.Native.Nat.{ℕ, ◌+◌, ◌≤◌}
use native.Mathlib.Omega.{arith}
use lib.ListN.{get_or, length}
use Rattle.solids.specs.Triangles.{Corner}
use Rattle.solids.specs.Solids.{Solid, vertex}
use Rattle.geometry.specs.Weights.{δ}
use Rattle.geometry.specs.Corners.{Digit, upright}
use Rattle.geometry.specs.Cells.{cell, WellFormed, corner}
use Rattle.geometry.proofs.Weights.{δ_same, δ_eq}
use Rattle.geometry.proofs.Faces.{vertex_apart, on, δ≤on, one_face}
use Rattle.geometry.proofs.CornerWeights.{facing, facing_one, base_at, on_its_face, up_weight, down_weight, path_of_bases}

pub record Both (so : Solid) (A B : List ℕ) (f : ℕ) (ds : List Digit) : Type 0 where
  pub low : WellFormed (cell so f ds)
  pub p : Corner
  pub q : Corner
  pub apart : p ≢ q
  pub is_a : corner (cell so f ds) p ≡ A
  pub is_b : corner (cell so f ds) q ≡ B

abbrev pub swap : {so : Solid} {A B : List ℕ} {f : ℕ} {ds : List Digit} → Both so A B f ds → Both so B A f ds
swap x = record { low = x.low; p = x.q; q = x.p; apart = λ e. x.apart (sym e); is_a = x.is_b; is_b = x.is_a }

-- what the first of the two corners weighs (the second: swap)
module _ {so : Solid} {A B : List ℕ} {f : ℕ} {ds : List Digit} (x : Both so A B f ds) where
  up : upright ds ≡ true → (v : ℕ) → get_or A v 0 ≡ base_at (cell so f ds) v + δ (vertex so f x.p) v
  up u v = rw (← x.is_a) (up_weight (cell so f ds) x.low u x.p v)

  down : upright ds ≡ false → (v : ℕ) → get_or A v 0 + δ (vertex so f (facing x.p)) v ≡ base_at (cell so f ds) v + on so f v
  down u v = rw (← x.is_a) (down_weight (cell so f ds) x.low u x.p v)

  p_not_q : δ (vertex so f x.q) (vertex so f x.p) ≡ 0
  p_not_q = vertex_apart so f x.low x.q x.p (λ e. x.apart (sym e))

  facing_p_not_q : δ (vertex so f (facing x.q)) (vertex so f (facing x.p)) ≡ 0
  facing_p_not_q =
      vertex_apart so f x.low (facing x.q) (facing x.p) (λ e. x.apart (sym (facing_one x.q x.p e)))

module _ {so : Solid} {A B : List ℕ} {f g : ℕ} {ds es : List Digit} (x : Both so A B f ds) (y : Both so A B g es) where
  -- both upright: the vertex of A is the same on both faces (look at that vertex), and the bases are the same
  pub ups_vertex : upright ds ≡ true → upright es ≡ true → vertex so g y.p ≡ vertex so f x.p
  ups_vertex u w =
      let a : ℕ = vertex so f x.p in
      δ_eq (vertex so g y.p) a
      (omega (arith, up x u a, up (swap x) u a, up y w a, up (swap y) w a, δ_same a, p_not_q x))

  ups_base : upright ds ≡ true → upright es ≡ true → (v : ℕ) → base_at (cell so f ds) v ≡ base_at (cell so g es) v
  ups_base u w v = omega (arith, up x u v, up y w v, ap (λ (n : ℕ). δ n v) (ups_vertex u w))

  -- both inverted: the same with the vertices that the corners face
  downs_vertex : upright ds ≡ false → upright es ≡ false → vertex so g (facing y.p) ≡ vertex so f (facing x.p)
  downs_vertex u w =
      let a : ℕ = vertex so f (facing x.p) in
      δ_eq (vertex so g (facing y.p)) a
      (omega (arith, down x u a, down (swap x) u a, down y w a, down (swap y) w a, δ_same a, facing_p_not_q x))

  downs_base : upright ds ≡ false → upright es ≡ false → (v : ℕ) →
      base_at (cell so f ds) v + on so f v ≡ base_at (cell so g es) v + on so g v
  downs_base u w v = omega (arith, down x u v, down y w v, ap (λ (n : ℕ). δ n v) (downs_vertex u w))

  -- the first cell weighs at all three vertices of the second's face, which is therefore its own
  downs_face : upright ds ≡ false → upright es ≡ false → g ≡ f
  downs_face u w = one_face so f g x.low y.low has
    where
      has : (i : Corner) → 1 ≤ on so f (vertex so g i)
      has i =
          let v : ℕ = vertex so g i in
          on_its_face (cell so f ds) v (omega (arith, downs_base u w v, δ≤on so g v i, δ_same v))

  -- one upright, one inverted: B's corner faces A's vertex, and again the first weighs at all three vertices
  pub mixed_face : upright ds ≡ true → upright es ≡ false → g ≡ f
  mixed_face u w = one_face so f g x.low y.low has
    where
      faced : vertex so g (facing y.q) ≡ vertex so f x.p
      faced =
          let a : ℕ = vertex so f x.p in
          δ_eq (vertex so g (facing y.q)) a
          (omega (arith, up x u a, up (swap x) u a, down y w a, down (swap y) w a, δ_same a, p_not_q x))

      has : (i : Corner) → 1 ≤ on so f (vertex so g i)
      has i =
          let v : ℕ = vertex so g i in
          on_its_face (cell so f ds) v
          (omega (
            arith,
            up (swap x) u v,
            down (swap y) w v,
            ap (λ (n : ℕ). δ n v) faced,
            δ≤on so g v i,
            δ_same v,
            δ≤on so f v x.p,
            δ≤on so f v x.q,
          ))

  module _ (n : length ds ≡ length es) where
    pub ups_cell : upright ds ≡ true → upright es ≡ true → g ≡ f → cell so g es ≡ cell so f ds
    ups_cell u w e =
        ap₂ (cell so) e
        (sym (path_of_bases so f ds es x.low n (rw e at (ups_base u w))))

    pub downs_cell : upright ds ≡ false → upright es ≡ false → cell so g es ≡ cell so f ds
    downs_cell u w =
        let e : g ≡ f = downs_face u w in
        let k : (v : ℕ) → base_at (cell so f ds) v + on so f v ≡ base_at (cell so f es) v + on so f v =
        rw e at (downs_base u w) in
        ap₂ (cell so) e (sym (path_of_bases so f ds es x.low n (λ v. omega (arith, k v))))
