-- Four children replaced by their parent: they stand side by side, and what is left covers the same faces.
--
--   Four L c                  == the children of c stand side by side in L
--   side_by_side              == leaves that cover have them so, where all four are leaves
--   four_at                   == by the index of the first
--   coarsen_is                == the list that is left
--   coarsen_covers            == it covers what the leaves did
--   coarsen_leaf, coarsen_old == c is a new leaf, and so is each old one but the four
--   coarsen_cases             == and no other is
--   coarsen_length            == it has three leaves less
--
-- Assumes nothing.
use mathlib.Core.Bool.{Bool, cond}
use mathlib.Core.List.{List, [], ◌∷◌, ◌++◌}
use mathlib.Core.Logic.{◌⊎◌, inl, inr, ⊎_elim}
use mathlib.Core.Path.{◌≡◌, refl, sym, ◌∙◌, ap, subst}
use Prim.Native.Nat.{ℕ, zero, suc, ◌+◌, ◌<◌, ◌≤◌}
use native.Mathlib.Nat.{le_antisymm}
use native.Mathlib.Omega.{arith}
use lib.ListN.{length, get_or, drop, length-append}
use lib.Seq.{get_or-append-add, get_or-append_seam}
use borrow.Author.Tests.{eq-eqb, ne_eqb}
use Rattle.codes.specs.Codes.{depth}
use Rattle.codes.specs.Places.{place, past, base, end, CodeOn, child_code}
use Rattle.codes.proofs.Sizes.{size_pos}
use Rattle.soundness.specs.Regions.{InFaces}
use Rattle.soundness.specs.Leaves.{Leaf, Ascends, Holds}
use Rattle.soundness.specs.Soundness.{Covers}
use Rattle.soundness.specs.Changes.{children, coarsened}
use Rattle.soundness.specs.Inner.{Tiles, Tiling}
use Rattle.soundness.proofs.Cells.{le_or_lt, holds_place, place_child, size_child}
use Rattle.soundness.proofs.Tiles.{tiles_split, kids_tiles, splice, tiling_covers, covers_tiling}
use Rattle.soundness.proofs.Leaves.{asc_at, leaf_append, leaf_left, leaf_right, one_holder}
use Rattle.soundness.proofs.Expanded.{kids_leaf}

-- lists

coarsen_parts : (c : ℕ) (A B : List ℕ) → Ascends (A ++ (child_code c 0 ∷ B)) → coarsened c (A ++ (child_code c 0 ∷ B)) ≡ A ++ (c ∷ drop 3 B)
coarsen_parts c [] B a =
    ap (λ (b : Bool). cond b (c ∷ drop 3 B) (child_code c 0 ∷ coarsened c B)) (eq-eqb (child_code c 0) (child_code c 0) refl)
coarsen_parts c (x ∷ A) B a =
    let M = A ++ (child_code c 0 ∷ B) in
    let l = a.0 (child_code c 0) (leaf_right A (child_code c 0 ∷ B) (child_code c 0) (inl refl)) in
    ap (λ (b : Bool). cond b (c ∷ drop 3 M) (x ∷ coarsened c M)) (ne_eqb (child_code c 0) x (λ e. omega arith))
    ∙ ap (λ (t : List ℕ). x ∷ t) (coarsen_parts c A B a.1)

index_one : (L : List ℕ) → Ascends L → (i j : ℕ) → i < length L → j < length L → get_or L i 0 ≡ get_or L j 0 → i ≡ j
index_one L a i j h k e =
    ⊎_elim
    (λ (l : i ≤ j). ⊎_elim (λ (m : j ≤ i). le_antisymm l m) (λ (m : i < j). absurd (omega (arith, asc_at L a i j m k))) (le_or_lt j i))
    (λ (l : j < i). absurd (omega (arith, asc_at L a j i l h)))
    (le_or_lt i j)

record Found (L : List ℕ) (x : ℕ) : Type 0 where
  before : List ℕ
  after : List ℕ
  is : L ≡ before ++ (x ∷ after)

find : (L : List ℕ) (x : ℕ) → Leaf L x → Found L x
find [] x m = absurd m
find (y ∷ L) x (inl e) = record { before = []; after = L; is = ap (λ (z : ℕ). z ∷ L) (sym e) }
find (y ∷ L) x (inr m) = let r = find L x m in record { before = y ∷ r.before; after = r.after; is = ap (λ (l : List ℕ). y ∷ l) r.is }

-- what begins where the tiling goes on
record Head (a : ℕ) (B : List ℕ) : Type 0 where
  one : ℕ
  rest : List ℕ
  is : B ≡ one ∷ rest
  at : place one ≡ a

head_at : (S Q a e : ℕ) (B : List ℕ) → Tiles S Q a e B → InFaces Q a → a < e → Head a B
head_at S Q a e [] t i h = absurd (t.none a (omega arith) h i)
head_at S Q a e (y ∷ B) t i h = record {
  one = y;
  rest = B;
  is = refl;
  at = ⊎_elim
      (λ (k : place y ≤ a). le_antisymm k t.0.gap.to)
      (λ (k : a < place y). absurd (t.0.gap.none a (omega arith) k i))
      (le_or_lt (place y) a);
}

pub record Four (L : List ℕ) (c : ℕ) : Type 0 where
  pub before : List ℕ
  pub after : List ℕ
  pub is : L ≡ before ++ (children c ++ after)

module _ (S Q : ℕ) (L : List ℕ) (C : Covers S Q L) (c : ℕ) (d : depth c < 26) (four : (q : ℕ) → q < 4 → Leaf L (child_code c q)) where
  -- a part of the leaves, from x on
  record From (x : ℕ) (B : List ℕ) : Type 0 where
    rest : List ℕ
    is : B ≡ x ∷ rest
    tiles : Tiles S Q (past x) (end S) rest
    leaf : (y : ℕ) → Leaf rest y → Leaf L y

  from_head : (a x : ℕ) (B : List ℕ) → a ≡ place x → Leaf L x → Tiles S Q a (end S) B → ((y : ℕ) → Leaf B y → Leaf L y) →
      Head a B → From x B
  from_head a x B p m t sub h =
      let mh : Leaf L h.one = sub h.one (subst (λ (l : List ℕ). Leaf l h.one) (sym h.is) (inl refl)) in
      let hx : Holds h.one (place x) = (omega (arith, h.at), omega (arith, h.at, size_pos (depth h.one))) in
      let e : B ≡ x ∷ h.rest = h.is ∙ ap (λ (y : ℕ). y ∷ h.rest) (one_holder S Q L C h.one x (place x) mh m hx (holds_place x)) in
      record {
        rest = h.rest;
        is = e;
        tiles = (subst (Tiles S Q a (end S)) e t).1;
        leaf = λ y k. sub y (subst (λ (l : List ℕ). Leaf l y) (sym e) (inr k));
      }

  -- after a child the next one
  next_kid : (q : ℕ) (B : List ℕ) → q + 1 < 4 → Tiles S Q (past (child_code c q)) (end S) B → ((y : ℕ) → Leaf B y → Leaf L y) →
      From (child_code c (q + 1)) B
  next_kid q B l t sub =
      let a = past (child_code c q) in
      let x = child_code c (q + 1) in
      let m = four (q + 1) l in
      let p : a ≡ place x = omega (arith, place_child c q d, place_child c (q + 1) d, size_child c q d) in
      let h = head_at S Q a (end S) B t (subst (InFaces Q) (sym p) (C.only x m)) (omega (arith, (C.cells x m).below)) in
      from_head a x B p m t sub h

  together : (A B : List ℕ) → L ≡ A ++ (child_code c 0 ∷ B) →
      (k₁ : From (child_code c 1) B) (k₂ : From (child_code c 2) k₁.rest) (k₃ : From (child_code c 3) k₂.rest) → Four L c
  together A B e k₁ k₂ k₃ = record {
    before = A;
    after = k₃.rest;
    is = e
        ∙ ap (λ (l : List ℕ). A ++ (child_code c 0 ∷ l))
        (k₁.is ∙ ap (λ (l : List ℕ). child_code c 1 ∷ l) (k₂.is ∙ ap (λ (l : List ℕ). child_code c 2 ∷ l) k₃.is));
  }

  after_first : Found L (child_code c 0) → Four L c
  after_first f =
      let A = f.before in
      let B = child_code c 0 ∷ f.after in
      let t = (tiles_split S Q (base S) (end S) A B (subst (Tiling S Q) f.is (covers_tiling S Q L C))).right.1 in
      let sub : (y : ℕ) → Leaf f.after y → Leaf L y = λ y m. subst (λ (l : List ℕ). Leaf l y) (sym f.is) (leaf_right A B y (inr m)) in
      let k₁ = next_kid 0 f.after (omega arith) t sub in
      let k₂ = next_kid 1 k₁.rest (omega arith) k₁.tiles k₁.leaf in
      together A f.after f.is k₁ k₂ (next_kid 2 k₂.rest (omega arith) k₂.tiles k₂.leaf)

  pub side_by_side : Four L c
  side_by_side = after_first (find L (child_code c 0) (four 0 (omega arith)))

  -- the list that is left

  pub four_at : (i q : ℕ) → i < length L → get_or L i 0 ≡ child_code c 0 → q < 4 → (i + q < length L) × (get_or L (i + q) 0 ≡ child_code c q)
  four_at i q h e l =
      let f = side_by_side in
      let A = f.before in
      let R = children c ++ f.after in
      let len : length L ≡ length A + length R = ap length f.is ∙ length-append A R in
      let z : get_or L (length A) 0 ≡ child_code c 0 =
      ap (λ (x : List ℕ). get_or x (length A) 0) f.is
      ∙ get_or-append_seam A (child_code c 0) (child_code c 1 ∷ child_code c 2 ∷ child_code c 3 ∷ f.after) 0 in
      let r : length R ≡ 4 + length f.after = omega arith in
      let n : i ≡ length A = index_one L C.ascend i (length A) h (omega arith) (e ∙ sym z) in (
        omega arith,
        ap (λ (k : ℕ). get_or L (k + q) 0) n ∙ ap (λ (x : List ℕ). get_or x (length A + q) 0) f.is
            ∙ get_or-append-add A R q 0 ∙ kid_at q l f.after,
      )
    where
      kid_at : (q : ℕ) → q < 4 → (B : List ℕ) → get_or (children c ++ B) q 0 ≡ child_code c q
      kid_at zero l B = refl
      kid_at (suc zero) l B = refl
      kid_at (suc (suc zero)) l B = refl
      kid_at (suc (suc (suc zero))) l B = refl
      kid_at (suc (suc (suc (suc n)))) l B = absurd (omega arith)

  pub coarsen_is : (f : Four L c) → coarsened c L ≡ f.before ++ (c ∷ f.after)
  coarsen_is f =
      ap (coarsened c) f.is
      ∙ coarsen_parts c f.before (child_code c 1 ∷ child_code c 2 ∷ child_code c 3 ∷ f.after) (subst Ascends f.is C.ascend)

  pub coarsen_leaf : Leaf (coarsened c L) c
  coarsen_leaf =
      let f = side_by_side in
      subst (λ (l : List ℕ). Leaf l c) (sym (coarsen_is f)) (leaf_right f.before (c ∷ f.after) c (inl refl))

  pub coarsen_cases : (x : ℕ) → Leaf (coarsened c L) x → (x ≡ c) ⊎ Leaf L x
  coarsen_cases x m =
      let f = side_by_side in
      let R = children c ++ f.after in
      let old : Leaf (f.before ++ R) x → Leaf L x = λ k. subst (λ (l : List ℕ). Leaf l x) (sym f.is) k in
      ⊎_elim
      (λ h. inr (old (leaf_left f.before R x h)))
      (λ h. ⊎_elim (λ e. inl e) (λ k. inr (old (leaf_right f.before R x (leaf_right (children c) f.after x k)))) h)
      (leaf_append f.before (c ∷ f.after) x (subst (λ (l : List ℕ). Leaf l x) (coarsen_is f) m))

  pub coarsen_old : (x : ℕ) → Leaf L x → ((q : ℕ) → q < 4 → x ≡ child_code c q → ⊥) → Leaf (coarsened c L) x
  coarsen_old x m ne =
      let f = side_by_side in
      subst (λ (l : List ℕ). Leaf l x) (sym (coarsen_is f))
      (⊎_elim
      (λ h. leaf_left f.before (c ∷ f.after) x h)
      (λ h. ⊎_elim
      (λ k. let r = kids_leaf c x k in absurd (ne r.digit r.four r.is))
      (λ k. leaf_right f.before (c ∷ f.after) x (inr k))
      (leaf_append (children c) f.after x h))
      (leaf_append f.before (children c ++ f.after) x (subst (λ (l : List ℕ). Leaf l x) f.is m)))

  pub coarsen_length : length (coarsened c L) + 3 ≡ length L
  coarsen_length =
      let f = side_by_side in
      omega (
        arith,
        ap length (coarsen_is f),
        ap length f.is,
        length-append f.before (c ∷ f.after),
        length-append f.before (children c ++ f.after),
        length-append (children c) f.after,
      )

  pub coarsen_covers : CodeOn S c → Covers S Q (coarsened c L)
  coarsen_covers w =
      let f = side_by_side in
      let t = subst (λ (l : List ℕ). Tiling S Q l) f.is (covers_tiling S Q L C) in
      tiling_covers S Q (coarsened c L)
      (subst (λ (l : List ℕ). Tiling S Q l) (sym (coarsen_is f))
      (splice S Q (base S) (end S) f.before (children c) (c ∷ []) f.after (λ p q u. kids_tiles S Q c p q w d u) t))
