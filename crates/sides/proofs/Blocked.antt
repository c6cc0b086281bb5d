-- What is in the way of some leaves is in the way of refining, for one leaf, and of coarsening, for the four children of a cell.
use mathlib.Core.Bool.{true, false}
use mathlib.Core.List.{List, [], ◌∷◌}
use mathlib.Core.Path.{◌≡◌, sym, subst}
use Prim.Native.Nat.{ℕ, zero, suc, ◌<◌}
use native.Mathlib.Omega.{arith}
use lib.ListN.{length, get_or}
use Rattle.std.proofs.Common.{Option}
use Rattle.codes.specs.Codes.{depth, IsCode}
use Rattle.codes.specs.Places.{child_code}
use Rattle.soundness.specs.Leaves.{Leaf}
use Rattle.soundness.specs.Meshes.{MeshOf}
use Rattle.soundness.specs.Sides.{BlocksRefine, BlocksCoarsen}
use Rattle.soundness.proofs.Cells.{depth_child}
use Rattle.sides.specs.Sides.{AllIn, Stands, InTheWay, Blocker}
use Rattle.sides.proofs.Least.{blocker_same}

-- one leaf

pub refine_in : (L : List ℕ) (a : ℕ) → Leaf L a → AllIn L (a ∷ [])
refine_in L a m zero h = m
refine_in L a m (suc i) h = absurd (omega arith)

pub refine_all : (L : List ℕ) (a : ℕ) (r : Option ℕ) → Blocker (InTheWay L false (a ∷ [])) r → Blocker (BlocksRefine L a) r
refine_all L a r =
    blocker_same (InTheWay L false (a ∷ [])) (BlocksRefine L a) r (λ x p. to x p.at p.within p.side p.low p.stands)
    (λ x p. record {
      at = 0;
      within = omega arith;
      side = p.side;
      low = p.low;
      stands = record { leaf = p.leaf; meets = p.meets; level = p.larger };
    })
  where
    to : (x i : ℕ) → i < 1 → (s : ℕ) → s < 3 → Stands L false (get_or (a ∷ []) i 0) s x → BlocksRefine L a x
    to x zero h s l p = record { leaf = p.leaf; side = s; low = l; meets = p.meets; larger = p.level }
    to x (suc i) h s l p = absurd (omega arith)

-- four children

pub four_deep : (L : List ℕ) (Q c : ℕ) → MeshOf Q L → IsCode c → ((q : ℕ) → q < 4 → Leaf L (child_code c q)) → depth c < 26
unfolding child_code
four_deep L Q c M w four = omega (arith, w.deep, (M.mesh.covers.cells (child_code c 0) (four 0 (omega arith))).deep)

pub kids_are : (c x y z w : ℕ) → x ≡ child_code c 0 → y ≡ child_code c 1 → z ≡ child_code c 2 → w ≡ child_code c 3 →
    (q : ℕ) → q < 4 → get_or (x ∷ y ∷ z ∷ w ∷ []) q 0 ≡ child_code c q
kids_are c x y z w e f g h zero l = e
kids_are c x y z w e f g h (suc zero) l = f
kids_are c x y z w e f g h (suc (suc zero)) l = g
kids_are c x y z w e f g h (suc (suc (suc zero))) l = h
kids_are c x y z w e f g h (suc (suc (suc (suc q)))) l = absurd (omega arith)

pub coarsen_in : (L : List ℕ) (c : ℕ) (A : List ℕ) → length A ≡ 4 → ((q : ℕ) → q < 4 → get_or A q 0 ≡ child_code c q) →
    ((q : ℕ) → q < 4 → Leaf L (child_code c q)) → AllIn L A
coarsen_in L c A four are f = λ i h. subst (Leaf L) (sym (are i (omega arith))) (f i (omega arith))

module _ (L : List ℕ) (c : ℕ) (d : depth c < 26) (A : List ℕ) (four : length A ≡ 4) (are : (q : ℕ) → q < 4 → get_or A q 0 ≡ child_code c q) where
  pub coarsen_all : (r : Option ℕ) → Blocker (InTheWay L true A) r → Blocker (BlocksCoarsen L c) r
  coarsen_all r =
      blocker_same (InTheWay L true A) (BlocksCoarsen L c) r
      (λ x p.
      let k : p.at < 4 = omega (arith, p.within) in
      let t = subst (λ (y : ℕ). Stands L true y p.side x) (are p.at k) p.stands in
      record {
        leaf = t.leaf;
        digit = p.at;
        four = k;
        side = p.side;
        low = p.low;
        meets = t.meets;
        smaller = omega (arith, t.level, depth_child c p.at d);
      })
      (λ x p.
      let v : depth (child_code c p.digit) < depth x = omega (arith, p.smaller, depth_child c p.digit d) in
      record {
        at = p.digit;
        within = omega (arith, p.four);
        side = p.side;
        low = p.low;
        stands = subst (λ (y : ℕ). Stands L true y p.side x) (sym (are p.digit p.four)) (record { leaf = p.leaf; meets = p.meets; level = v });
      })
