-- Search by halves: of slots that ascend, one settles all on one side of it.
use Rattle.std.proofs.Common.{◌≡◌, ℕ, zero, suc, ◌+◌, ◌-◌, ◌*◌, ◌/◌, ◌%◌, ◌<◌, ◌≤◌, List, [], ◌∷◌, length, get_or, take, drop, ap, ◌∙◌, inl, inr, ⊎_elim, arith, length-drop, length-take-le, get_or-take, get_or-drop}
use Rattle.soundness.specs.Leaves.{Leaf, Ascends}
use Rattle.soundness.specs.Inner.{Below}
use Rattle.soundness.proofs.Cells.{le_or_lt}
use Rattle.soundness.proofs.Leaves.{asc_at, asc_le}
use Rattle.slots.specs.Slots.{Less}

-- what a search knows of where it ends
pub record Within (L : List ℕ) (key lo hi : ℕ) : Type 0 where
  pub order : lo ≤ hi
  pub upto : hi ≤ length L
  pub less : (i : ℕ) → i < lo → get_or L i 0 < key
  pub rest : (i : ℕ) → hi ≤ i → i < length L → key ≤ get_or L i 0

pub part_most : {a b : ℕ} (half r : ℕ) → Less a b r → half * r ≤ half
part_most half r (inl (e, l)) = omega (arith, ap (λ (k : ℕ). half * k) e)
part_most half r (inr (e, l)) = omega (arith, ap (λ (k : ℕ). half * k) e)

-- nothing is settled yet
pub within_all : (L : List ℕ) (key n : ℕ) → length L ≡ n → Within L key 0 (0 + n)
within_all L key n e = record { order = omega arith; upto = omega arith; less = λ i h. absurd (omega arith); rest = λ i h k. absurd (omega arith) }

module _ (L : List ℕ) (key : ℕ) (a : Ascends L) where
  -- a slot less than the key and a later one that is not settle all before the one and after the other
  pub within_two : (lo hi : ℕ) → lo ≤ hi → hi < length L → get_or L lo 0 < key → key ≤ get_or L hi 0 → Within L key lo (hi + 1)
  within_two lo hi o u l r = record {
    order = omega arith;
    upto = omega arith;
    less = λ i k. omega (arith, asc_at L a i lo k (omega arith));
    rest = λ i k m. omega (arith, asc_le L a hi i (omega arith) m);
  }

  -- what stands before the middle slot is less than the key when that slot is at most the key; else what stands from it on is
  -- settled
  module _ (lo rest half : ℕ) (p : Within L key lo (lo + rest)) (some : 1 < rest) (h : half ≡ rest / 2) where
    pub halved : (r : ℕ) → Less (get_or L (lo + half) 0 / 2) (key / 2 + key % 2) r → Within L key (lo + half * r) (lo + half * r + (rest - half))
    halved r (inl (e, l)) = rw e (record {
      order = omega arith;
      upto = omega (arith, p.upto);
      less = λ i k. omega (arith, l, asc_at L a i (lo + half) (omega arith) (omega (arith, p.upto)));
      rest = λ i k m. p.rest i (omega arith) m;
    })
    halved r (inr (e, l)) = rw e (record {
      order = omega arith;
      upto = omega (arith, p.upto);
      less = λ i k. p.less i (omega arith);
      rest = λ i k m. omega (arith, l, asc_le L a (lo + half) i (omega arith) m);
    })

  -- one slot is left, and it settles itself
  module _ (lo rest : ℕ) (p : Within L key lo (lo + rest)) (one : rest ≡ 1) where
    pub below_last : get_or L lo 0 < key → Below L key (lo + 1)
    below_last l = record {
      upto = omega (arith, p.upto);
      less = λ i k. omega (arith, asc_le L a i lo (omega arith) (omega (arith, p.upto)));
      rest = λ i k m. p.rest i (omega arith) m;
    }

    pub below_first : key ≤ get_or L lo 0 → Below L key lo
    below_first l = record {
      upto = omega (arith, p.upto);
      less = p.less;
      rest = λ i k m. omega (arith, asc_le L a lo i k m);
    }

-- a part of slots that ascend

leaf_of_take : (n : ℕ) (L : List ℕ) (y : ℕ) → Leaf (take n L) y → Leaf L y
leaf_of_take zero L y m = absurd m
leaf_of_take (suc n) [] y m = absurd m
leaf_of_take (suc n) (x ∷ L) y (inl e) = inl e
leaf_of_take (suc n) (x ∷ L) y (inr m) = inr (leaf_of_take n L y m)

ascends_take : (n : ℕ) (L : List ℕ) → Ascends L → Ascends (take n L)
ascends_take zero L a = tt
ascends_take (suc n) [] a = tt
ascends_take (suc n) (x ∷ L) a = (λ y m. a.0 y (leaf_of_take n L y m), ascends_take n L a.1)

ascends_drop : (n : ℕ) (L : List ℕ) → Ascends L → Ascends (drop n L)
ascends_drop zero L a = a
ascends_drop (suc n) [] a = tt
ascends_drop (suc n) (x ∷ L) a = ascends_drop n L a.1

module _ (L : List ℕ) (lo n : ℕ) (a : Ascends L) where
  pub near_ascends : Ascends (take n (drop lo L))
  near_ascends = ascends_take n (drop lo L) (ascends_drop lo L a)

  module _ (some : 0 < n) (upto : lo + n ≤ length L) where
    near_at : (i : ℕ) → i < n → get_or (take n (drop lo L)) i 0 ≡ get_or L (lo + i) 0
    near_at i h = get_or-take n (drop lo L) i 0 h ∙ get_or-drop lo L i 0

    near_length : length (take n (drop lo L)) ≡ n
    near_length = length-take-le n (drop lo L) (omega (arith, length-drop lo L))

    -- where the first of the part is less than the key and its last is not, the part tells of all
    pub near_below : (key r : ℕ) → get_or (take n (drop lo L)) 0 0 < key → key ≤ get_or (take n (drop lo L)) (n - 1) 0 →
        Below (take n (drop lo L)) key r → Below L key (lo + r)
    near_below key r f g B =
        let l = near_length in
        let one : 0 < r = ⊎_elim (λ (h : r ≤ 0). absurd (omega (arith, B.rest 0 h (omega arith)))) (λ h. h) (le_or_lt r 0) in
        let more : r < n = ⊎_elim (λ (h : n ≤ r). absurd (omega (arith, B.less (n - 1) (omega arith)))) (λ h. h) (le_or_lt n r) in
        let before : get_or L (lo + (r - 1)) 0 < key = omega (arith, near_at (r - 1) (omega arith), B.less (r - 1) (omega arith)) in
        let after : key ≤ get_or L (lo + r) 0 = omega (arith, near_at r more, B.rest r (omega arith) (omega arith)) in
        record {
          upto = omega arith;
          less = λ i h. omega (arith, before, asc_le L a i (lo + (r - 1)) (omega arith) (omega arith));
          rest = λ i h k. omega (arith, after, asc_le L a (lo + r) i h k);
        }
