-- What leaves that cover say of a cell: it is a leaf, or leaves are inside it, or it is inside one; and how a search tells.
--
--   leaf_at, at_leaf           == a leaf by its index, and the index of a leaf
--   asc_at, asc_le             == ascending, by index
--   one_holder, in_one         == leaves that hold one place are one, a leaf inside a leaf is that leaf
--   leaves_apart               == two leaves lie apart
--   where_is, present_or       == where a cell stands: one of three, one of two
--   inner_kid                  == each child of a cell with leaves strictly inside is a leaf or such a cell
--   present_at, at_present     == leaves are in a cell, by one search
--   leaf_append, -left, -right == the leaves of two lists side by side
--   run_part                   == the leaves in a cell are a part of the list, by two searches
--
-- Assumes nothing.
use mathlib.Core.Bool.{Bool, true, false, cond, ◌&&◌}
use mathlib.Core.List.{List, [], ◌∷◌, ◌++◌, append-nil}
use mathlib.Core.Logic.{◌⊎◌, inl, inr, ⊎_elim}
use mathlib.Core.Path.{◌≡◌, refl, sym, ◌∙◌, ap, subst}
use Prim.Native.Nat.{ℕ, zero, suc, ◌+◌, ◌-◌, ◌*◌, ◌<◌, ◌≤◌}
use native.Mathlib.Omega.{arith}
use lib.Dec.{leb}
use lib.ListN.{length, get_or, take, drop, length-drop, take-append-drop}
use lib.Seq.{get_or-take, get_or-drop, length-take-le, drop-drop}
use borrow.Author.Tests.{le-leb, leb-true}
use Rattle.codes.specs.Codes.{depth}
use Rattle.codes.specs.Places.{place, past, CodeOn, child_code}
use Rattle.codes.proofs.Sizes.{size_pos}
use Rattle.soundness.specs.Regions.{InFaces}
use Rattle.soundness.specs.Leaves.{Leaf, Ascends, Holds, In, Apart}
use Rattle.soundness.specs.Soundness.{Covers}
use Rattle.soundness.specs.Changes.{under}
use Rattle.soundness.specs.Inner.{Present, Inner, Around, Where, equal, inner, outer, Below}
use Rattle.soundness.proofs.Cells.{
  le_or_lt,
  common,
  past_end,
  inq_in,
  inq_out,
  holds_place,
  in_holds,
  in_trans,
  in_depth,
  in_same,
  depth_child,
  child_in,
  child_cell,
  in_range,
  range_in,
}

-- a leaf by its index, and back

pub record At (L : List ℕ) (x : ℕ) : Type 0 where
  pub at : ℕ
  pub low : at < length L
  pub is : get_or L at 0 ≡ x

pub leaf_at : (L : List ℕ) (i : ℕ) → i < length L → Leaf L (get_or L i 0)
leaf_at [] i h = absurd (omega arith)
leaf_at (x ∷ L) zero h = inl refl
leaf_at (x ∷ L) (suc i) h = inr (leaf_at L i (omega arith))

pub at_leaf : (L : List ℕ) (x : ℕ) → Leaf L x → At L x
at_leaf [] x h = absurd h
at_leaf (y ∷ L) x (inl e) = record { at = 0; low = omega arith; is = sym e }
at_leaf (y ∷ L) x (inr h) = let r = at_leaf L x h in record { at = suc r.at; low = omega (arith, r.low); is = r.is }

pub asc_at : (L : List ℕ) → Ascends L → (i j : ℕ) → i < j → j < length L → get_or L i 0 < get_or L j 0
asc_at [] a i j l h = absurd (omega arith)
asc_at (x ∷ L) a zero zero l h = absurd (omega arith)
asc_at (x ∷ L) a zero (suc j) l h = a.0 (get_or L j 0) (leaf_at L j (omega arith))
asc_at (x ∷ L) a (suc i) zero l h = absurd (omega arith)
asc_at (x ∷ L) a (suc i) (suc j) l h = asc_at L a.1 i j (omega arith) (omega arith)

pub asc_le : (L : List ℕ) → Ascends L → (i j : ℕ) → i ≤ j → j < length L → get_or L i 0 ≤ get_or L j 0
asc_le L a i j l h =
    ⊎_elim
    (λ (k : j ≤ i). let e : i ≡ j = omega arith in omega (arith, ap (λ (n : ℕ). get_or L n 0) e))
    (λ (k : i < j). omega (arith, asc_at L a i j k h))
    (le_or_lt j i)

module _ (S Q : ℕ) (L : List ℕ) (C : Covers S Q L) where
  pub one_holder : (x y g : ℕ) → Leaf L x → Leaf L y → Holds x g → Holds y g → x ≡ y
  one_holder x y g mx my hx hy =
      let w = C.cells x mx in
      let r = C.cover g (omega (arith, w.from, hx.0)) (omega (arith, past_end x w, hx.1)) (inq_in Q x g w hx (C.only x mx)) in
      r.only x mx hx ∙ sym (r.only y my hy)

  pub in_one : (x y : ℕ) → Leaf L x → Leaf L y → In x y → x ≡ y
  in_one x y mx my i = one_holder x y (place x) mx my (holds_place x) (in_holds x y (place x) i (holds_place x))

  pub leaves_apart : (x y : ℕ) → Leaf L x → Leaf L y → (x ≡ y → ⊥) → Apart x y
  leaves_apart x y mx my ne =
      ⊎_elim
      (λ h. inl h)
      (λ h. ⊎_elim
      (λ k. inr k)
      (λ k. absurd (⊎_elim
      (λ l. ne (one_holder x y (place y) mx my (l, h) (holds_place y)))
      (λ l. ne (one_holder x y (place x) mx my (holds_place x) (omega arith, k)))
      (le_or_lt (place x) (place y))))
      (le_or_lt (past y) (place x)))
      (le_or_lt (past x) (place y))

  -- the key passes the depth bits: of the codes that begin at g, the deeper is the greater
  -- where a cell stands

  pub where_is : (c : ℕ) → CodeOn S c → InFaces Q (place c) → Where L c
  where_is c w i =
      let r = C.cover (place c) w.from w.below i in
      let b = r.leaf in
      let wb = C.cells b r.is in
      ⊎_elim
      (λ (d : depth b ≤ depth c).
      let k = common c b (place c) w wb d (holds_place c) r.holds in
      ⊎_elim
      (λ (e : depth c ≤ depth b). equal (subst (λ (n : ℕ). Leaf L n) (sym (in_same c b k (omega arith))) r.is))
      (λ (e : depth b < depth c). outer (record { leaf = b; is = r.is; around = k; larger = e }))
      (le_or_lt (depth c) (depth b)))
      (λ (d : depth c < depth b).
      inner (record { leaf = b; is = r.is; inside = common b c (place c) wb w (omega arith) r.holds (holds_place c); deeper = d }))
      (le_or_lt (depth b) (depth c))

  pub around_not : (c : ℕ) → CodeOn S c → Around L c → Present L c → ⊥
  around_not c w a p =
      let e : p.leaf ≡ a.leaf = in_one p.leaf a.leaf p.is a.is (in_trans p.leaf c a.leaf p.inside a.around) in
      let d : depth p.leaf ≡ depth a.leaf = ap depth e in
      omega (arith, a.larger, in_depth p.leaf c (C.cells p.leaf p.is) w p.inside)

  pub inner_present : (c : ℕ) → Inner L c → Present L c
  inner_present c n = record { leaf = n.leaf; is = n.is; inside = n.inside }

  pub leaf_present : (c : ℕ) → Leaf L c → Present L c
  leaf_present c m = record { leaf = c; is = m; inside = (omega arith, omega arith) }

  pub present_or : (c : ℕ) → CodeOn S c → InFaces Q (place c) → Present L c ⊎ Around L c
  present_or c w i = go (where_is c w i)
    where
      go : Where L c → Present L c ⊎ Around L c
      go (equal m) = inl (leaf_present c m)
      go (inner n) = inl (inner_present c n)
      go (outer a) = inr a

  pub present_inq : (c : ℕ) → CodeOn S c → Present L c → InFaces Q (place c)
  present_inq c w p =
      inq_out Q c (place p.leaf) w (in_holds p.leaf c (place p.leaf) p.inside (holds_place p.leaf)) (C.only p.leaf p.is)

  pub inner_kid : (p q : ℕ) → CodeOn S p → Inner L p → q < 4 → Leaf L (child_code p q) ⊎ Inner L (child_code p q)
  inner_kid p q w n l =
      let d : depth p < 26 = omega (arith, n.deeper, (C.cells n.leaf n.is).deep) in
      let k = child_code p q in
      let wk = child_cell p q w d l in
      let i = inq_in Q p (place k) w (in_holds k p (place k) (child_in p q d l) (holds_place k)) (present_inq p w (inner_present p n)) in
      go d wk (where_is k wk i)
    where
      go : depth p < 26 → CodeOn S (child_code p q) → Where L (child_code p q) → Leaf L (child_code p q) ⊎ Inner L (child_code p q)
      go d wk (equal m) = inl m
      go d wk (inner j) = inr j
      go d wk (outer a) =
          let b = a.leaf in
          let k = child_code p q in
          let h = holds_place k in
          let hp = in_holds k p (place k) (child_in p q d l) h in
          let hb = in_holds k b (place k) a.around h in
          let u = common p b (place k) w (C.cells b a.is) (omega (arith, a.larger, depth_child p q d)) hp hb in
          let e : n.leaf ≡ b = in_one n.leaf b n.is a.is (in_trans n.leaf p b n.inside u) in
          absurd (omega (arith, ap depth e, n.deeper, a.larger, depth_child p q d))

  pub inner_kid_present : (p q : ℕ) → CodeOn S p → Inner L p → q < 4 → Present L (child_code p q)
  inner_kid_present p q w n l = ⊎_elim (λ m. leaf_present (child_code p q) m) (λ j. inner_present (child_code p q) j) (inner_kid p q w n l)

  pub present_up : (x c : ℕ) → In x c → Present L x → Present L c
  present_up x c i p = record { leaf = p.leaf; is = p.is; inside = in_trans p.leaf x c p.inside i }

module _ (S Q : ℕ) (L : List ℕ) (C : Covers S Q L) (c r : ℕ) (w : CodeOn S c) (B : Below L c r) where
  -- by one search

  pub present_at : r < length L → place (get_or L r 0) ≡ place c → Present L c
  present_at l e =
      let x = get_or L r 0 in
      let m = leaf_at L r l in
      let wx = C.cells x m in
      let h : c ≤ x = B.rest r (omega arith) l in
      let k : x < 32 * past c = omega (arith, size_pos (depth c)) in
      record { leaf = x; is = m; inside = range_in x c wx w h k }

  pub at_present : InFaces Q (place c) → Present L c → (r < length L) × (place (get_or L r 0) ≡ place c)
  at_present i p =
      let b = C.cover (place c) w.from w.below i in
      let x = b.leaf in
      let wx = C.cells x b.is in
      let d : depth c ≤ depth x =
      ⊎_elim
      (λ h. h)
      (λ h.
      let i = common c x (place c) w wx (omega arith) (holds_place c) b.holds in
      absurd (around_not S Q L C c w (record { leaf = x; is = b.is; around = i; larger = h }) p))
      (le_or_lt (depth c) (depth x)) in
      let k = common x c (place c) wx w d b.holds (holds_place c) in
      let cx : c ≤ x = (in_range x c wx w k).0 in
      let n = at_leaf L x b.is in
      let rn : r ≤ n.at = ⊎_elim (λ h. h) (λ h. absurd (omega (arith, B.less n.at h, n.is))) (le_or_lt r n.at) in
      let low : r < length L = omega (arith, n.low) in
      let up : get_or L r 0 ≤ x = omega (arith, asc_le L C.ascend r n.at rn n.low, n.is) in
      (low, omega (arith, B.rest r (omega arith) low, b.holds.0))

-- the leaves of two lists side by side, and of a part

pub leaf_append : (A B : List ℕ) (x : ℕ) → Leaf (A ++ B) x → Leaf A x ⊎ Leaf B x
leaf_append [] B x m = inr m
leaf_append (y ∷ A) B x (inl e) = inl (inl e)
leaf_append (y ∷ A) B x (inr m) = ⊎_elim (λ h. inl (inr h)) (λ h. inr h) (leaf_append A B x m)

pub leaf_left : (A B : List ℕ) (x : ℕ) → Leaf A x → Leaf (A ++ B) x
leaf_left [] B x m = absurd m
leaf_left (y ∷ A) B x (inl e) = inl e
leaf_left (y ∷ A) B x (inr m) = inr (leaf_left A B x m)

pub leaf_right : (A B : List ℕ) (x : ℕ) → Leaf B x → Leaf (A ++ B) x
leaf_right [] B x m = m
leaf_right (y ∷ A) B x m = inr (leaf_right A B x m)

pub at_leaf-take : (L : List ℕ) (i x : ℕ) → Leaf (take i L) x → i ≤ length L → (k : ℕ) × (k < i) × (get_or L k 0 ≡ x)
at_leaf-take L i x m h =
    let r = at_leaf (take i L) x m in
    let l : r.at < i = omega (arith, r.low, length-take-le i L h) in
    (r.at, l, sym (get_or-take i L r.at 0 l) ∙ r.is)

pub at_leaf-drop : (L : List ℕ) (i x : ℕ) → Leaf (drop i L) x → (k : ℕ) × (i ≤ k) × (k < length L) × (get_or L k 0 ≡ x)
at_leaf-drop L i x m =
    let r = at_leaf (drop i L) x m in
    let l : i + r.at < length L = omega (arith, r.low, length-drop i L) in
    (i + r.at, omega arith, l, sym (get_or-drop i L r.at 0) ∙ r.is)

-- the leaves in a cell

under_append : (c : ℕ) (A B : List ℕ) → under c (A ++ B) ≡ under c A ++ under c B
under_append c [] B = refl
under_append c (x ∷ A) B = go (leb (place c) (place x) && leb (past x) (past c)) (under_append c A B)
  where
    go : (p : Bool) → under c (A ++ B) ≡ under c A ++ under c B →
        cond p (x ∷ under c (A ++ B)) (under c (A ++ B)) ≡ cond p (x ∷ under c A) (under c A) ++ under c B
    go true e = ap (λ (l : List ℕ). x ∷ l) e
    go false e = e

under_all : (c : ℕ) (A : List ℕ) → ((x : ℕ) → Leaf A x → In x c) → under c A ≡ A
under_all c [] f = refl
under_all c (x ∷ A) f =
    let i = f x (inl refl) in
    simp (le-leb (place c) (place x) i.0, le-leb (past x) (past c) i.1, under_all c A (λ y m. f y (inr m)))

under_none : (c : ℕ) (A : List ℕ) → ((x : ℕ) → Leaf A x → In x c → ⊥) → under c A ≡ []
under_none c [] f = refl
under_none c (x ∷ A) f = go (leb (place c) (place x)) refl (leb (past x) (past c)) refl (under_none c A (λ y m. f y (inr m)))
  where
    go : (p : Bool) → leb (place c) (place x) ≡ p → (q : Bool) → leb (past x) (past c) ≡ q → under c A ≡ [] →
        cond (p && q) (x ∷ under c A) (under c A) ≡ []
    go true e true e' r = absurd (f x (inl refl) (leb-true _ _ e, leb-true _ _ e'))
    go true e false e' r = r
    go false e q e' r = r

-- the cell may be of another solid, or lie outside the faces
module _ (S S' : ℕ) (L : List ℕ) (cells : (x : ℕ) → Leaf L x → CodeOn S x)
    (c i j : ℕ) (w : CodeOn S' c) (A : Below L c i) (B : Below L (32 * past c) j) where
  cell_at : (k x : ℕ) → k < length L → get_or L k 0 ≡ x → CodeOn S x
  cell_at k x h e = subst (λ (n : ℕ). CodeOn S n) e (cells (get_or L k 0) (leaf_at L k h))

  before : (x : ℕ) → Leaf (take i L) x → In x c → ⊥
  before x m n =
      let r = at_leaf-take L i x m A.upto in
      omega (arith, r.2, A.less r.0 r.1, (in_range x c (cell_at r.0 x (omega (arith, r.1, A.upto)) r.2) w n).0)

  after : (x : ℕ) → Leaf (drop j L) x → In x c → ⊥
  after x m n =
      let r = at_leaf-drop L j x m in
      omega (arith, r.3, B.rest r.0 r.1 r.2, (in_range x c (cell_at r.0 x r.2 r.3) w n).1)

  pub run_part : under c L ≡ take (j - i) (drop i L)
  run_part =
      let ij : i ≤ j =
      ⊎_elim (λ h. h) (λ h. absurd (omega (arith, A.less j h, B.rest j (omega arith) (omega (arith, A.upto)), size_pos (depth c)))) (le_or_lt i j) in
      let n : i + (j - i) ≡ j = omega arith in
      let M = take (j - i) (drop i L) in
      let all : L ≡ take i L ++ (M ++ drop j L) =
      sym (take-append-drop i L)
      ∙ ap (λ (l : List ℕ). take i L ++ l)
      (sym (take-append-drop (j - i) (drop i L)) ∙ ap (λ (l : List ℕ). M ++ l) (drop-drop (j - i) i L ∙ ap (λ (k : ℕ). drop k L) n)) in
      ap (under c) all ∙ under_append c (take i L) (M ++ drop j L)
      ∙ ap (λ (l : List ℕ). l ++ under c (M ++ drop j L)) (under_none c (take i L) before)
      ∙ under_append c M (drop j L) ∙ ap (λ (l : List ℕ). under c M ++ l) (under_none c (drop j L) after)
      ∙ append-nil (under c M) ∙ under_all c M (middle ij)
    where
      middle : i ≤ j → (x : ℕ) → Leaf (take (j - i) (drop i L)) x → In x c
      middle ij x m =
          let len : j - i ≤ length (drop i L) = omega (arith, length-drop i L, B.upto) in
          let r = at_leaf-take (drop i L) (j - i) x m len in
          let k = i + r.0 in
          let e : get_or L k 0 ≡ x = sym (get_or-drop i L r.0 0) ∙ r.2 in
          let l : k < j = omega (arith, r.1) in
          let low : c ≤ x = omega (arith, A.rest k (omega arith) (omega (arith, B.upto))) in
          range_in x c (cell_at k x (omega (arith, B.upto)) e) w low (omega (arith, B.less k l))
