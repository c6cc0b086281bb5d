-- Leaves that tile cover their faces; each is a code of their solid, so is its parent, and so is the cell that a step leads to.
use mathlib.Core.List.{List}
use mathlib.Core.Path.{◌≡◌, sym, subst}
use Prim.Native.Nat.{ℕ, ◌<◌, ◌≤◌}
use native.Mathlib.Omega.{arith}
use lib.ListN.{length, get_or, take}
use lib.Seq.{get_or-take, length-take-le}
use Rattle.solids.specs.Triangles.{Side, left, right, vertical, side_no}
use Rattle.codes.specs.Codes.{depth, IsCode}
use Rattle.codes.specs.Places.{CodeOn, parent_code}
use Rattle.codes.proofs.Places.{on_solid_code}
use Rattle.steps.specs.Stepped.{step_code}
use Rattle.steps.proofs.Laws.{step_laws}
use Rattle.soundness.specs.Leaves.{Leaf}
use Rattle.soundness.specs.Soundness.{Covers}
use Rattle.soundness.proofs.Cells.{as_kid}
use Rattle.soundness.proofs.Tiles.{tiling_covers}
use Rattle.soundness.proofs.Leaves.{leaf_at}
use Rattle.tiling.specs.Tiling.{Tiled}
use Rattle.balance.specs.Tiled.{TiledFor}

pub tiled_covers : {Q : ℕ} {L : List ℕ} {c : ℕ} (k : TiledFor Q L c) → Covers k.solid Q L
tiled_covers {Q} {L} k = tiling_covers k.solid Q L k.tiling

pub tiled_code : {Q : ℕ} {L : List ℕ} {c : ℕ} → TiledFor Q L c → IsCode c
tiled_code {c = c} k = on_solid_code k.solid c k.code

pub parent_tiled : {Q : ℕ} {L : List ℕ} {a p : ℕ} → TiledFor Q L a → 0 < depth a → p ≡ parent_code a → TiledFor Q L p
parent_tiled {a = a} k h e =
    record { solid = k.solid; tiling = k.tiling; code = subst (λ (n : ℕ). CodeOn k.solid n) (sym e) (as_kid a k.code h).cell }

side_low : (s : Side) → side_no s < 3
side_low left = omega arith
side_low right = omega arith
side_low vertical = omega arith

pub step_tiled : {Q : ℕ} {L : List ℕ} {p n : ℕ} (s : Side) → TiledFor Q L p → n ≡ step_code (side_no s) p → TiledFor Q L n
step_tiled {p = p} s k e =
    record { solid = k.solid; tiling = k.tiling; code = subst (λ (n : ℕ). CodeOn k.solid n) (sym e) ((step_laws k.solid).on (side_no s) p (side_low s) k.code) }

-- M is the leaves as they were read
pub leaf_tiled : {Q : ℕ} {L M : List ℕ} {i : ℕ} → M ≡ L → i < length M → Tiled Q L → TiledFor Q L (get_or M i 0)
leaf_tiled {Q} {L} {M} {i} e h k =
    let m : Leaf L (get_or M i 0) = subst (λ (l : List ℕ). Leaf l (get_or M i 0)) e (leaf_at M i h) in
    record { solid = k.solid; tiling = k.tiling; code = (tiling_covers k.solid Q L k.tiling).cells (get_or M i 0) m }

-- the leaves are the first slots
module _ (Q : ℕ) (xs : List ℕ) (n : ℕ) (h : n ≤ length xs) (i : ℕ) (l : i < n) where
  pub slot_leaf : Leaf (take n xs) (get_or xs i 0)
  slot_leaf = subst (λ (x : ℕ). Leaf (take n xs) x) (get_or-take n xs i 0 l) (leaf_at (take n xs) i (omega (arith, length-take-le n xs h)))

  pub slot_tiled : Tiled Q (take n xs) → TiledFor Q (take n xs) (get_or xs i 0)
  slot_tiled k =
      record { solid = k.solid; tiling = k.tiling; code = (tiling_covers k.solid Q (take n xs) k.tiling).cells (get_or xs i 0) slot_leaf }
