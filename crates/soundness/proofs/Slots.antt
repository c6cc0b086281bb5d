-- The leaves after a refine or a coarsen, by index.
--
--   refine_at, coarsen_at == the new list: what stands before the index, the new leaves, what stands after
--   refine_length         == a refine gives three leaves more
--
-- Assumes nothing.
use mathlib.Core.Bool.{Bool, false, cond}
use mathlib.Core.List.{List, [], ◌∷◌, ◌++◌}
use mathlib.Core.Logic.{inl, inr}
use mathlib.Core.Path.{◌≡◌, refl, sym, ◌∙◌, ap}
use Prim.Native.Nat.{ℕ, zero, suc, ◌+◌, ◌<◌}
use native.Mathlib.Omega.{arith}
use lib.Dec.{eqb}
use lib.ListN.{length, get_or, take, drop, length-append, length-drop}
use lib.Seq.{length-take-le}
use borrow.Author.Tests.{eq-eqb, ne_eqb}
use Rattle.codes.specs.Places.{child_code}
use Rattle.soundness.specs.Leaves.{Leaf, Ascends}
use Rattle.soundness.specs.Changes.{children, expanded, refined, coarsened}
use Rattle.soundness.proofs.Leaves.{leaf_at, at_leaf}

pub expand_none : (A : ℕ → Bool) (L : List ℕ) → ((y : ℕ) → Leaf L y → A y ≡ false) → expanded A L ≡ L
expand_none A [] f = refl
expand_none A (x ∷ L) f =
    ap (λ (b : Bool). cond b (children x) (x ∷ []) ++ expanded A L) (f x (inl refl))
    ∙ ap (λ (l : List ℕ). x ∷ l) (expand_none A L (λ y m. f y (inr m)))

pub refine_at : (L : List ℕ) (i : ℕ) → Ascends L → i < length L →
    refined (get_or L i 0) L ≡ take i L ++ (children (get_or L i 0) ++ drop (suc i) L)
refine_at [] i a h = absurd (omega arith)
refine_at (x ∷ L) zero a h =
    ap (λ (b : Bool). cond b (children x) (x ∷ []) ++ expanded (eqb x) L) (eq-eqb x x refl)
    ∙ ap (λ (l : List ℕ). children x ++ l) (expand_none (eqb x) L (λ y m. ne_eqb x y (λ e. omega (arith, a.0 y m))))
refine_at (x ∷ L) (suc i) a h =
    let y = get_or L i 0 in
    let l : x < y = a.0 y (leaf_at L i (omega arith)) in
    ap (λ (b : Bool). cond b (children x) (x ∷ []) ++ expanded (eqb y) L) (ne_eqb y x (λ e. omega arith))
    ∙ ap (λ (t : List ℕ). x ∷ t) (refine_at L i a.1 (omega arith))

pub refine_length : (L : List ℕ) (a : ℕ) → Ascends L → Leaf L a → length (refined a L) ≡ length L + 3
refine_length L a s m =
    let r = at_leaf L a m in
    let i = r.at in
    let h = r.low in
    let M = children (get_or L i 0) ++ drop (suc i) L in
    let e : length (refined a L) ≡ length (take i L ++ M) = ap (λ (x : ℕ). length (refined x L)) (sym r.is) ∙ ap length (refine_at L i s h) in
    omega (arith, e, length-append (take i L) M, length-take-le i L (omega arith), length-drop (suc i) L)

pub coarsen_at : (L : List ℕ) (c i : ℕ) → Ascends L → i < length L → get_or L i 0 ≡ child_code c 0 →
    coarsened c L ≡ take i L ++ (c ∷ drop (suc (suc (suc (suc i)))) L)
coarsen_at [] c i a h e = absurd (omega arith)
coarsen_at (x ∷ L) c zero a h e = ap (λ (b : Bool). cond b (c ∷ drop 3 L) (x ∷ coarsened c L)) (eq-eqb (child_code c 0) x (sym e))
coarsen_at (x ∷ L) c (suc i) a h e =
    let l : x < get_or L i 0 = a.0 (get_or L i 0) (leaf_at L i (omega arith)) in
    ap (λ (b : Bool). cond b (c ∷ drop 3 L) (x ∷ coarsened c L)) (ne_eqb (child_code c 0) x (λ f. omega arith))
    ∙ ap (λ (t : List ℕ). x ∷ t) (coarsen_at L c i a.1 (omega arith) e)
