-- Tilings: a list of leaves that follow each other, with nothing of the faces between. A list is a tiling exactly when it
-- covers the faces.
--
--   tiles_append, tiles_split  == two tilings side by side, and back
--   tiles_wider, tiles_further == a gap before or after is taken in
--   tiles_snoc                 == one more slot
--   splice                     == a part goes from the same places to the same places as another, and takes its place
--   tiles_kids, kids_tiles     == so a cell and its children
--   tiles_lies                 == where each leaf of a tiling lies
--   tiling_covers              == a tiling covers
--   covers_tiling              == what covers is a tiling
--   next_place, no_shorter     == at most one prefix is a tiling
--
-- Assumes nothing.
use mathlib.Core.List.{List, [], ◌∷◌, ◌++◌}
use mathlib.Core.Logic.{inl, inr, ⊎_elim}
use mathlib.Core.Path.{◌≡◌, refl, sym, subst}
use Prim.Native.Nat.{ℕ, ◌+◌, ◌<◌, ◌≤◌}
use native.Mathlib.Numerals.{add-one}
use native.Mathlib.Omega.{arith}
use lib.ListN.{length, get_or, take}
use lib.Seq.{take-suc}
use Rattle.codes.specs.Codes.{depth}
use Rattle.codes.specs.Places.{place, past, base, end, CodeOn, child_code}
use Rattle.codes.proofs.Sizes.{size_pos}
use Rattle.soundness.specs.Regions.{InFaces}
use Rattle.soundness.specs.Leaves.{Leaf, Ascends, Holds}
use Rattle.soundness.specs.Soundness.{Held, Covers}
use Rattle.soundness.specs.Changes.{children}
use Rattle.soundness.specs.Inner.{Gap, Next, Tiles, Tiling}
use Rattle.soundness.proofs.Cells.{le_or_lt, size_step, past_end, inq_in, holds_place, in_holds, place_child, size_child, child_in, child_cell, past_lt}

module _ (Q : ℕ) where
  pub gap_refl : (a b : ℕ) → a ≡ b → Gap Q a b
  gap_refl a b e = record { to = omega arith; none = λ g l h i. absurd (omega arith) }

  pub gap_trans : (a b c : ℕ) → Gap Q a b → Gap Q b c → Gap Q a c
  gap_trans a b c p q =
      record {
        to = omega (arith, p.to, q.to);
        none = λ g l h i. ⊎_elim (λ (k : b ≤ g). q.none g k h i) (λ (k : g < b). p.none g l k i) (le_or_lt b g);
      }

module _ (S Q : ℕ) where
  -- side by side

  pub tiles_wider : (a b c : ℕ) (L : List ℕ) → Gap Q a b → Tiles S Q b c L → Tiles S Q a c L
  tiles_wider a b c [] p t = gap_trans Q a b c p t
  tiles_wider a b c (x ∷ L) p t = (record { gap = gap_trans Q a b (place x) p t.0.gap; cell = t.0.cell; here = t.0.here }, t.1)

  pub tiles_append : (a b c : ℕ) (L M : List ℕ) → Tiles S Q a b L → Tiles S Q b c M → Tiles S Q a c (L ++ M)
  tiles_append a b c [] M t u = tiles_wider a b c M t u
  tiles_append a b c (x ∷ L) M t u = (t.0, tiles_append (past x) b c L M t.1 u)

  pub tiles_further : (a b c : ℕ) (L : List ℕ) → Tiles S Q a b L → Gap Q b c → Tiles S Q a c L
  tiles_further a b c [] t p = gap_trans Q a b c t p
  tiles_further a b c (x ∷ L) t p = (t.0, tiles_further (past x) b c L t.1 p)

  -- one more slot
  pub tiles_snoc : (a b : ℕ) (xs : List ℕ) (i : ℕ) → Tiles S Q a b (take i xs) → i < length xs → Next S Q b (get_or xs i 0) →
      Tiles S Q a (past (get_or xs i 0)) (take (i + 1) xs)
  tiles_snoc a b xs i t l n =
      rw (add-one i, take-suc xs i 0 l) (tiles_append a b (past (get_or xs i 0)) (take i xs) (get_or xs i 0 ∷ []) t (n, gap_refl Q _ _ refl))

  pub record Cut (a c : ℕ) (L M : List ℕ) : Type 0 where
    pub at : ℕ
    pub left : Tiles S Q a at L
    pub right : Tiles S Q at c M

  pub tiles_split : (a c : ℕ) (L M : List ℕ) → Tiles S Q a c (L ++ M) → Cut a c L M
  tiles_split a c [] M t = record { at = a; left = gap_refl Q a a refl; right = t }
  tiles_split a c (x ∷ L) M t =
      let r = tiles_split (past x) c L M t.1 in
      record { at = r.at; left = (t.0, r.left); right = r.right }

  pub splice : (a b : ℕ) (A M M' B : List ℕ) → ((p q : ℕ) → Tiles S Q p q M → Tiles S Q p q M') →
      Tiles S Q a b (A ++ (M ++ B)) → Tiles S Q a b (A ++ (M' ++ B))
  splice a b A M M' B f t =
      let r = tiles_split a b A (M ++ B) t in
      let u = tiles_split r.at b M B r.right in
      tiles_append a r.at b A (M' ++ B) r.left (tiles_append r.at u.at b M' B (f r.at u.at u.left) u.right)

  -- a cell and its children go from the same place to the same place

  kids_past : (c : ℕ) → depth c < 26 → past (child_code c 3) ≡ past c
  kids_past c d = omega (arith, place_child c 3 d, size_child c 3 d, size_step (depth c) d)

  kid_next : (c q p : ℕ) → CodeOn S c → depth c < 26 → q < 4 → InFaces Q (place c) → p ≡ place (child_code c q) → Next S Q p (child_code c q)
  kid_next c q p w d l i e =
      let k = child_code c q in
      record {
        gap = gap_refl Q p (place k) e;
        cell = child_cell c q w d l;
        here = inq_in Q c (place k) w (in_holds k c (place k) (child_in c q d l) (holds_place k)) i;
      }

  pub tiles_kids : (c p q : ℕ) → depth c < 26 → Tiles S Q p q (c ∷ []) → Tiles S Q p q (children c)
  tiles_kids c p q d t =
      let w = t.0.cell in
      let i = t.0.here in
      let z : place (child_code c 0) ≡ place c = omega (arith, place_child c 0 d) in
      let k0 = kid_next c 0 (place c) w d (omega arith) i (sym z) in (
        record { gap = gap_trans Q p (place c) (place (child_code c 0)) t.0.gap k0.gap; cell = k0.cell; here = k0.here },
        (
          kid_next c 1 _ w d (omega arith) i (omega (arith, place_child c 0 d, place_child c 1 d, size_child c 0 d)),
          (
            kid_next c 2 _ w d (omega arith) i (omega (arith, place_child c 1 d, place_child c 2 d, size_child c 1 d)),
            (
              kid_next c 3 _ w d (omega arith) i (omega (arith, place_child c 2 d, place_child c 3 d, size_child c 2 d)),
              gap_trans Q (past (child_code c 3)) (past c) q (gap_refl Q _ _ (kids_past c d)) t.1,
            ),
          ),
        ),
      )

  pub kids_tiles : (c p q : ℕ) → CodeOn S c → depth c < 26 → Tiles S Q p q (children c) → Tiles S Q p q (c ∷ [])
  kids_tiles c p q w d t =
      let z : place (child_code c 0) ≡ place c = omega (arith, place_child c 0 d) in (
        record {
          gap = gap_trans Q p (place (child_code c 0)) (place c) t.0.gap (gap_refl Q _ _ z);
          cell = w;
          here = subst (λ (n : ℕ). InFaces Q n) z t.0.here;
        },
        gap_trans Q (past c) (past (child_code c 3)) q (gap_refl Q _ _ (sym (kids_past c d))) t.1.1.1.1,
      )

  -- a tiling covers

  pub tiles_le : (a b : ℕ) (L : List ℕ) → Tiles S Q a b L → a ≤ b
  tiles_le a b [] t = t.to
  tiles_le a b (x ∷ L) t = omega (arith, t.0.gap.to, size_pos (depth x), tiles_le (past x) b L t.1)

  pub record Lies (a b x : ℕ) : Type 0 where
    pub cell : CodeOn S x
    pub here : InFaces Q (place x)
    pub from : a ≤ place x
    pub to : past x ≤ b

  pub tiles_lies : (a b : ℕ) (L : List ℕ) → Tiles S Q a b L → (x : ℕ) → Leaf L x → Lies a b x
  tiles_lies a b [] t x h = absurd h
  tiles_lies a b (y ∷ L) t x (inl e) =
      subst (λ (n : ℕ). Lies a b n) (sym e)
      (record { cell = t.0.cell; here = t.0.here; from = t.0.gap.to; to = tiles_le (past y) b L t.1 })
  tiles_lies a b (y ∷ L) t x (inr h) =
      let r = tiles_lies (past y) b L t.1 x h in
      record { cell = r.cell; here = r.here; from = omega (arith, t.0.gap.to, r.from); to = r.to }

  pub tiles_asc : (a b : ℕ) (L : List ℕ) → Tiles S Q a b L → Ascends L
  tiles_asc a b [] t = tt
  tiles_asc a b (x ∷ L) t = ((λ y h. past_lt x y (tiles_lies (past x) b L t.1 y h).from), tiles_asc (past x) b L t.1)

  pub tiles_held : (a b : ℕ) (L : List ℕ) → Tiles S Q a b L → (g : ℕ) → a ≤ g → g < b → InFaces Q g → Held L g
  tiles_held a b [] t g l h i = absurd (t.none g l h i)
  tiles_held a b (x ∷ L) t g l h i =
      let later = tiles_lies (past x) b L t.1 in
      ⊎_elim
      (λ (k : past x ≤ g).
      let r = tiles_held (past x) b L t.1 g k h i in
      record {
        leaf = r.leaf;
        is = inr r.is;
        holds = r.holds;
        only = λ y m u. ⊎_elim (λ (e : y ≡ x). absurd (past_not y x g e u k)) (λ (m' : Leaf L y). r.only y m' u) m;
      })
      (λ (k : g < past x).
      ⊎_elim
      (λ (j : place x ≤ g).
      record {
        leaf = x;
        is = inl refl;
        holds = (j, k);
        only = λ y m u. ⊎_elim (λ (e : y ≡ x). e) (λ (m' : Leaf L y). absurd (omega (arith, (later y m').from, u.0))) m;
      })
      (λ (j : g < place x). absurd (t.0.gap.none g l j i))
      (le_or_lt (place x) g))
      (le_or_lt (past x) g)
    where
      past_not : (y x g : ℕ) → y ≡ x → Holds y g → past x ≤ g → ⊥
      past_not y x g e u k = omega (arith, (subst (λ (n : ℕ). Holds n g) e u).1)

  pub tiling_covers : (L : List ℕ) → Tiling S Q L → Covers S Q L
  tiling_covers L t =
      let r = tiles_lies (base S) (end S) L t in
      record {
        cells = λ x h. (r x h).cell;
        ascend = tiles_asc (base S) (end S) L t;
        cover = tiles_held (base S) (end S) L t;
        only = λ x h. (r x h).here;
      }

  -- what covers is a tiling: what is left to cover starts at a

  pub record Rest (a : ℕ) (L : List ℕ) : Type 0 where
    pub from : (x : ℕ) → Leaf L x → a ≤ place x
    pub low : base S ≤ a
    pub high : a ≤ end S
    pub cells : (x : ℕ) → Leaf L x → CodeOn S x
    pub ascend : Ascends L
    pub cover : (g : ℕ) → a ≤ g → g < end S → InFaces Q g → Held L g
    pub only : (x : ℕ) → Leaf L x → InFaces Q (place x)

  rest_next : (a x : ℕ) (L : List ℕ) → Rest a (x ∷ L) → Next S Q a x
  rest_next a x L r =
      record {
        gap = record {
          to = r.from x (inl refl);
          none = λ g l h i.
              let y = r.cover g l (omega (arith, (r.cells x (inl refl)).below)) i in
              ⊎_elim
              (λ (e : y.leaf ≡ x). omega (arith, y.holds.0))
              (λ (m : Leaf L y.leaf). omega (arith, y.holds.0, r.ascend.0 y.leaf m))
              y.is;
        };
        cell = r.cells x (inl refl);
        here = r.only x (inl refl);
      }

  rest_rest : (a x : ℕ) (L : List ℕ) → Rest a (x ∷ L) → Rest (past x) L
  rest_rest a x L r =
      let w = r.cells x (inl refl) in
      let ax = r.from x (inl refl) in
      record {
        from = λ y m. ⊎_elim (λ (h : past x ≤ place y). h) (λ (h : place y < past x). absurd (clash y m h)) (le_or_lt (past x) (place y));
        low = omega (arith, r.low, ax);
        high = past_end x w;
        cells = λ y m. r.cells y (inr m);
        ascend = r.ascend.1;
        cover = λ g l h i.
            let y = r.cover g (omega (arith, ax)) h i in
            record {
              leaf = y.leaf;
              is = ⊎_elim (λ (e : y.leaf ≡ x). absurd (beyond y.leaf g e y.holds l)) (λ (m : Leaf L y.leaf). m) y.is;
              holds = y.holds;
              only = λ z m u. y.only z (inr m) u;
            };
        only = λ y m. r.only y (inr m);
      }
    where
      beyond : (y g : ℕ) → y ≡ x → Holds y g → past x ≤ g → ⊥
      beyond y g e u k = omega (arith, (subst (λ (n : ℕ). Holds n g) e u).1)

      clash : (y : ℕ) → Leaf L y → place y < past x → ⊥
      clash y m h =
          let lt = r.ascend.0 y m in
          let k = r.cover (place y) (r.from y (inr m)) (r.cells y (inr m)).below (r.only y (inr m)) in
          let e : x ≡ k.leaf = k.only x (inl refl) (omega arith, h) in
          let f : y ≡ k.leaf = k.only y (inr m) (holds_place y) in
          omega arith

  pub rest_tiles : (a : ℕ) (L : List ℕ) → Rest a L → Tiles S Q a (end S) L
  rest_tiles a [] r = record { to = r.high; none = λ g l h i. (r.cover g l h i).is }
  rest_tiles a (x ∷ L) r = (rest_next a x L r, rest_tiles (past x) L (rest_rest a x L r))

  pub covers_tiling : (L : List ℕ) → Covers S Q L → Tiling S Q L
  covers_tiling L c =
      rest_tiles (base S) L
      (record {
        from = λ x h. (c.cells x h).from;
        low = omega arith;
        high = omega arith;
        cells = c.cells;
        ascend = c.ascend;
        cover = c.cover;
        only = c.only;
      })

  -- at most one prefix is a tiling

  pub next_place : (a b e x : ℕ) (A B : List ℕ) → Tiles S Q a b A → InFaces Q b → Tiles S Q a e (A ++ (x ∷ B)) → Next S Q b x × (place x ≡ b)
  next_place a b e x [] B t i u =
      let p : b ≤ place x =
      ⊎_elim (λ (h : b ≤ place x). h) (λ (h : place x < b). absurd (t.none (place x) u.0.gap.to h u.0.here)) (le_or_lt b (place x)) in
      let q : place x ≤ b =
      ⊎_elim (λ (h : place x ≤ b). h) (λ (h : b < place x). absurd (u.0.gap.none b t.to h i)) (le_or_lt (place x) b) in
      let same : b ≡ place x = omega arith in
      (record { gap = gap_refl Q b (place x) same; cell = u.0.cell; here = u.0.here }, sym same)
  next_place a b e x (y ∷ A) B t i u = next_place (past y) b e x A B t.1 i u.1

  pub no_shorter : (a b e : ℕ) (A B : List ℕ) → Tiles S Q a b (A ++ B) → InFaces Q b → b < e → Tiles S Q a e A → ⊥
  no_shorter a b e [] B t i h u = u.none b (tiles_le a b B t) h i
  no_shorter a b e (y ∷ A) B t i h u = no_shorter (past y) b e A B t.1 i h u.1
