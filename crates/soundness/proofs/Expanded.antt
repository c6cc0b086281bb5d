-- Leaves replaced by their children: what the new leaves are, and that they cover the same faces.
--
--   kids_leaf, leaf_kids   == the children of a cell, as a list and by their digits
--   OldOf A L x            == x is one of the leaves L and is not replaced
--   KidOf A L x            == x is a child of one of the leaves L that is replaced
--   expand_cases           == each new leaf is the one or the other
--   expand_old, expand_kid == each of these is a new leaf
--   Room L A               == the leaves that are replaced have children
--   expand_covers          == the new leaves cover what the old ones did
--   refine_covers          == so do they where one leaf is replaced
--
-- Assumes nothing.
use mathlib.Core.Bool.{Bool, true, false, cond}
use mathlib.Core.List.{List, [], ◌∷◌, ◌++◌}
use mathlib.Core.Logic.{◌⊎◌, inl, inr, ⊎_elim}
use mathlib.Core.Path.{◌≡◌, refl, sym, ◌∙◌, ap, subst}
use Prim.Native.Nat.{ℕ, zero, suc, ◌<◌}
use native.Mathlib.Omega.{arith}
use lib.Dec.{eqb}
use borrow.Author.Tests.{eqb-true}
use Rattle.codes.specs.Codes.{depth}
use Rattle.codes.specs.Places.{past, base, end, child_code}
use Rattle.steps.specs.Edges.{SomeDigit}
use Rattle.soundness.specs.Leaves.{Leaf}
use Rattle.soundness.specs.Soundness.{Covers}
use Rattle.soundness.specs.Changes.{children, expanded, refined}
use Rattle.soundness.specs.Inner.{Tiles}
use Rattle.soundness.proofs.Tiles.{gap_refl, tiles_append, tiles_kids, tiling_covers, covers_tiling}
use Rattle.soundness.proofs.Leaves.{leaf_append, leaf_left, leaf_right}

-- members

pub kids_leaf : (c x : ℕ) → Leaf (children c) x → SomeDigit c x
kids_leaf c x (inl e) = record { digit = 0; four = omega arith; is = e }
kids_leaf c x (inr (inl e)) = record { digit = 1; four = omega arith; is = e }
kids_leaf c x (inr (inr (inl e))) = record { digit = 2; four = omega arith; is = e }
kids_leaf c x (inr (inr (inr (inl e)))) = record { digit = 3; four = omega arith; is = e }
kids_leaf c x (inr (inr (inr (inr h)))) = absurd h

leaf_kids : (c q : ℕ) → q < 4 → Leaf (children c) (child_code c q)
leaf_kids c zero h = inl refl
leaf_kids c (suc zero) h = inr (inl refl)
leaf_kids c (suc (suc zero)) h = inr (inr (inl refl))
leaf_kids c (suc (suc (suc zero))) h = inr (inr (inr (inl refl)))
leaf_kids c (suc (suc (suc (suc n)))) h = absurd (omega arith)

pub record OldOf (A : ℕ → Bool) (L : List ℕ) (x : ℕ) : Type 0 where
  pub is : Leaf L x
  pub kept : A x ≡ false

pub record KidOf (A : ℕ → Bool) (L : List ℕ) (x : ℕ) : Type 0 where
  pub leaf : ℕ
  pub is : Leaf L leaf
  pub taken : A leaf ≡ true
  pub child : SomeDigit leaf x

pub expand_cases : (A : ℕ → Bool) (L : List ℕ) (x : ℕ) → Leaf (expanded A L) x → OldOf A L x ⊎ KidOf A L x
expand_cases A [] x m = absurd m
expand_cases A (y ∷ L) x m = head (A y) refl (expand_cases A L x) m
  where
    later : OldOf A L x ⊎ KidOf A L x → OldOf A (y ∷ L) x ⊎ KidOf A (y ∷ L) x
    later (inl o) = inl (record { is = inr o.is; kept = o.kept })
    later (inr k) = inr (record { leaf = k.leaf; is = inr k.is; taken = k.taken; child = k.child })

    head : (b : Bool) → A y ≡ b → (Leaf (expanded A L) x → OldOf A L x ⊎ KidOf A L x) →
        Leaf (cond b (children y) (y ∷ []) ++ expanded A L) x → OldOf A (y ∷ L) x ⊎ KidOf A (y ∷ L) x
    head true e f m =
        ⊎_elim
        (λ k. inr (record { leaf = y; is = inl refl; taken = e; child = kids_leaf y x k }))
        (λ h. later (f h))
        (leaf_append (children y) (expanded A L) x m)
    head false e f (inl h) = inl (record { is = inl h; kept = ap A h ∙ e })
    head false e f (inr h) = later (f h)

pub expand_old : (A : ℕ → Bool) (L : List ℕ) (x : ℕ) → Leaf L x → A x ≡ false → Leaf (expanded A L) x
expand_old A [] x m e = absurd m
expand_old A (y ∷ L) x (inl h) e =
    subst (λ (b : Bool). Leaf (cond b (children y) (y ∷ []) ++ expanded A L) x) (sym (ap A (sym h) ∙ e)) (inl h)
expand_old A (y ∷ L) x (inr m) e = leaf_right (cond (A y) (children y) (y ∷ [])) (expanded A L) x (expand_old A L x m e)

pub expand_kid : (A : ℕ → Bool) (L : List ℕ) (x q : ℕ) → Leaf L x → A x ≡ true → q < 4 → Leaf (expanded A L) (child_code x q)
expand_kid A [] x q m e l = absurd m
expand_kid A (y ∷ L) x q (inl h) e l =
    leaf_left (cond (A y) (children y) (y ∷ [])) (expanded A L) (child_code x q)
    (subst (λ (b : Bool). Leaf (cond b (children y) (y ∷ [])) (child_code x q)) (sym (ap A (sym h) ∙ e))
    (subst (λ (z : ℕ). Leaf (children z) (child_code x q)) h (leaf_kids x q l)))
expand_kid A (y ∷ L) x q (inr m) e l =
    leaf_right (cond (A y) (children y) (y ∷ [])) (expanded A L) (child_code x q) (expand_kid A L x q m e l)

-- tilings

abbrev pub Room : List ℕ → (ℕ → Bool) → Type 0
Room L A = (x : ℕ) → Leaf L x → A x ≡ true → depth x < 26

expand_tiles : (S Q : ℕ) (A : ℕ → Bool) (a b : ℕ) (L : List ℕ) → Room L A → Tiles S Q a b L → Tiles S Q a b (expanded A L)
expand_tiles S Q A a b [] f t = t
expand_tiles S Q A a b (x ∷ L) f t = head (A x) refl (expand_tiles S Q A (past x) b L (λ y m e. f y (inr m) e) t.1)
  where
    head : (v : Bool) → A x ≡ v → Tiles S Q (past x) b (expanded A L) → Tiles S Q a b (cond v (children x) (x ∷ []) ++ expanded A L)
    head true e u =
        let one : Tiles S Q a (past x) (x ∷ []) = (t.0, gap_refl Q (past x) (past x) refl) in
        tiles_append S Q a (past x) b (children x) (expanded A L) (tiles_kids S Q x a (past x) (f x (inl refl) e) one) u
    head false e u = (t.0, u)

pub expand_covers : (S Q : ℕ) (A : ℕ → Bool) (L : List ℕ) → Room L A → Covers S Q L → Covers S Q (expanded A L)
expand_covers S Q A L room C = tiling_covers S Q (expanded A L) (expand_tiles S Q A (base S) (end S) L room (covers_tiling S Q L C))

-- one leaf replaced

pub refine_room : (a : ℕ) (L : List ℕ) → depth a < 26 → Room L (eqb a)
refine_room a L d x m e = subst (λ (y : ℕ). depth y < 26) (eqb-true a x e) d

pub refine_covers : (S Q a : ℕ) (L : List ℕ) → depth a < 26 → Covers S Q L → Covers S Q (refined a L)
refine_covers S Q a L d C = expand_covers S Q (eqb a) L (refine_room a L d) C
