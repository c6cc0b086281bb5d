-- The level test asks for at most two sides of a leaf, by its last two digits, and none of most leaves. That is enough.
--
--   rows_level, level_rows == what the test finds is what Level says
--
-- Assumes nothing.
use mathlib.Core.List.{List}
use mathlib.Core.Logic.{inl, inr, ⊎_elim}
use mathlib.Core.Path.{◌≡◌, refl, sym, ◌∙◌, ap, subst}
use Prim.Native.Nat.{ℕ, zero, suc, ◌+◌, ◌<◌, ◌≤◌}
use native.Mathlib.Omega.{arith}
use Rattle.codes.specs.Codes.{depth}
use Rattle.codes.specs.Places.{place, CodeOn, child_code, parent_code, last_digit}
use Rattle.steps.specs.Edges.{back_no, first, OnEdge, StepLaws}
use Rattle.soundness.specs.Leaves.{Leaf}
use Rattle.soundness.specs.Soundness.{Covers, Level}
use Rattle.soundness.specs.Inner.{Present, Inner, Fine, Rows}
use Rattle.soundness.proofs.Cells.{le_or_lt, inq_in, inq_or, in_place, in_trans, depth_child, child_in, child_cell, parent_child, last_child, as_kid}
use Rattle.soundness.proofs.Leaves.{present_or, present_up, inner_kid, inner_kid_present}
use Rattle.soundness.proofs.Edges.{edge_four, edge_or}
use Rattle.soundness.proofs.Level.{parent_inner, level_inners, inners_level}

module _ (S Q : ℕ) (L : List ℕ) (C : Covers S Q L) where
  fine_up : (n r : ℕ) → CodeOn S n → depth n < 26 → r < 4 → Fine Q L (child_code n r) → Fine Q L n
  fine_up n r w d h (inl o) =
      inl (λ i. o (inq_in Q n (place (child_code n r)) w (in_place (child_code n r) n (child_in n r d h)) i))
  fine_up n r w d h (inr p) = inr (present_up S Q L C (child_code n r) n (child_in n r d h) p)

  fine_face : (n : ℕ) → CodeOn S n → depth n ≡ 0 → Fine Q L n
  fine_face n w d =
      ⊎_elim
      (λ i. ⊎_elim (λ h. inr h) (λ a. absurd (omega (arith, a.larger))) (present_or S Q L C n w i))
      (λ h. inl h)
      (inq_or Q (place n))

module _ (S Q : ℕ) (step : ℕ → ℕ → ℕ) (N : StepLaws S step) (L : List ℕ) (C : Covers S Q L) where
  -- the first child of p on side s is a leaf, and p is no face: the leaf's row asks for the side, or the neighbour of p is a
  -- child of p's parent
  rows_leaf : Rows Q step L → (p s : ℕ) → CodeOn S p → Inner L p → s < 3 → depth p < 26 → Leaf L (child_code p (first s)) → 0 < depth p →
      Fine Q L (step s p)
  rows_leaf f p s w n l d leaf z =
      let q = first s in
      let four = edge_four s q (inl refl) in
      let k = child_code p q in
      let up = as_kid p w z in
      let pp = parent_code p in
      let e : parent_code k ≡ p = parent_child p q w d four in
      ⊎_elim
      (λ (on : OnEdge s (last_digit p)).
      subst (λ (x : ℕ). Fine Q L (step s x)) e
      (f s k leaf (record {
        low = l;
        two = omega (arith, depth_child p q d);
        digit = last_child p q w d four;
        above = subst (λ (x : ℕ). OnEdge s (last_digit x)) (sym e) on;
      })))
      (λ (off : OnEdge s (last_digit p) → ⊥).
      let r = N.within s pp (last_digit p) l up.cell (omega (arith, up.up)) up.four off in
      let st : step s p ≡ child_code pp r.digit = ap (step s) up.is ∙ r.is in
      let ipp : Inner L pp = record {
        leaf = n.leaf;
        is = n.is;
        deeper = omega (arith, n.deeper, up.up);
        inside = in_trans n.leaf p pp n.inside up.inside;
      } in
      inr (subst (Present L) (sym st) (inner_kid_present S Q L C pp r.digit up.cell ipp r.four)))
      (edge_or s (last_digit p))

  rows_by : Rows Q step L → (m p s : ℕ) → 26 ≤ depth p + m → CodeOn S p → Inner L p → s < 3 → Fine Q L (step s p)
  rows_by f zero p s h w n l = absurd (omega (arith, n.deeper, (C.cells n.leaf n.is).deep))
  rows_by f (suc m) p s h w n l =
      let d : depth p < 26 = omega (arith, n.deeper, (C.cells n.leaf n.is).deep) in
      let q = first s in
      let four = edge_four s q (inl refl) in
      let dk = depth_child p q d in
      ⊎_elim
      (λ leaf. ⊎_elim
      (λ (z : depth p ≤ 0). fine_face S Q L C (step s p) (N.on s p l w) (omega (arith, N.level s p l w)))
      (λ (z : 0 < depth p). rows_leaf f p s w n l d leaf z)
      (le_or_lt (depth p) 0))
      (λ j.
      let r = N.edge s p q l w d (inl refl) in
      let k = rows_by f m (child_code p q) s (omega arith) (child_cell p q w d four) j l in
      fine_up S Q L C (step s p) r.digit (N.on s p l w) (omega (arith, N.level s p l w)) (edge_four (back_no s) r.digit r.on)
      (subst (Fine Q L) r.is k))
      (inner_kid S Q L C p q w n four)

  pub rows_level : Rows Q step L → Level L
  rows_level f = inners_level S Q step N L C (λ p s w n l. rows_by f 26 p s (omega arith) w n l)

  pub level_rows : Level L → Rows Q step L
  level_rows v s a m k =
      let pi = parent_inner S Q L C a m (omega (arith, k.two)) in
      level_inners S Q step N L C v (parent_code a) s pi.0.cell pi.1 k.low
