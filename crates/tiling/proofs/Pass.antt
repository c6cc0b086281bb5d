-- Where the linear pass stands, and how it goes on.
--
--   Pass S Q xs w i == the first i slots follow each other from the first place of the solid, and the next is to begin at w
--   pass_start      == before the first slot
--   pass_cell       == a slot that begins at w is a code of the solid
--   pass_more       == one more slot
--   pass_zero       == no slot begins at w, so no prefix is a tiling
--   pass_end        == w is the end of the solid
--   pass_out        == the slots end before the solid, or there is nothing of the set
--   pass_tiled      == the slots up to i tile the faces
--
use mathlib.Core.List.{List}
use mathlib.Core.Logic.{◌⊎◌, ⊎_elim}
use mathlib.Core.Path.{◌≡◌, subst, sym}
use Prim.Native.Nat.{ℕ, ◌+◌, ◌<◌, ◌≤◌}
use native.Mathlib.Omega.{arith}
use lib.ListN.{length, get_or, take}
use Rattle.solids.specs.Solids.{Known}
use Rattle.codes.specs.Places.{place, past, base, end, CodeOn}
use Rattle.soundness.specs.Regions.{InFaces}
use Rattle.soundness.specs.Inner.{Next, Tiles, Tiling}
use Rattle.soundness.proofs.Cells.{le_or_lt}
use Rattle.soundness.proofs.Tiles.{gap_refl, tiles_le, tiles_further, tiles_snoc}
use Rattle.soundness.proofs.Prefixes.{prefix_one, fits}
use Rattle.tiling.specs.Tiling.{Skipped, Begins, Counts, Tiled}

pub record Pass (S Q : ℕ) (xs : List ℕ) (w i : ℕ) : Type 0 where
  pub index : i ≤ length xs
  pub tiles : Tiles S Q (base S) w (take i xs)
  pub upto : w ≤ end S
  pub there : (w ≡ end S) ⊎ InFaces Q w

pub skipped_same : {Q e e' g g' r : ℕ} → e ≡ e' → g ≡ g' → Skipped Q e g r → Skipped Q e' g' r
skipped_same {Q} {e} {e'} {g} {g'} {r} p q k = subst (λ (n : ℕ). Skipped Q n g' r) p (subst (λ (n : ℕ). Skipped Q e n r) q k)

module _ (S Q : ℕ) (known : Known S) (xs : List ℕ) where
  pub pass_start : (w : ℕ) → Skipped Q (end S) (base S) w → Pass S Q xs w 0
  pass_start w k = record { index = omega arith; tiles = k.gap; upto = k.upto; there = k.there }

  pass_in : (w i : ℕ) → Pass S Q xs w i → w < end S → InFaces Q w
  pass_in w i p h = ⊎_elim (λ e. absurd (omega arith)) (λ q. q) p.there

  pub pass_cell : (w i x : ℕ) → Pass S Q xs w i → w < end S → Begins x w → CodeOn S x
  pass_cell w i x p h b =
      let l = tiles_le S Q (base S) w (take i xs) p.tiles in
      record { known = known; from = omega (arith, b.at); below = omega (arith, b.at); deep = b.deep; tail = b.tail }

  pub pass_more : (w i r : ℕ) → Pass S Q xs w i → w < end S → i < length xs → Begins (get_or xs i 0) w →
      Skipped Q (end S) (past (get_or xs i 0)) r → Pass S Q xs r (i + 1)
  pass_more w i r p h l b k =
      let x = get_or xs i 0 in
      let next : Next S Q w x = record {
        gap = gap_refl Q w (place x) (sym b.at);
        cell = pass_cell w i x p h b;
        here = subst (λ (n : ℕ). InFaces Q n) (sym b.at) (pass_in w i p h);
      } in
      record {
        index = omega arith;
        tiles = tiles_further S Q (base S) (past x) r (take (i + 1) xs) (tiles_snoc S Q (base S) w xs i p.tiles l next) k.gap;
        upto = k.upto;
        there = k.there;
      }

  pass_none : (w i : ℕ) → Pass S Q xs w i → w < end S → (i < length xs → Begins (get_or xs i 0) w → ⊥) →
      (m : ℕ) → m ≤ length xs → Tiling S Q (take m xs) → ⊥
  pass_none w i p h n m l t =
      let f = fits S Q xs w i m l p.tiles (pass_in w i p h) h t in
      n (omega (arith, f.more)) (record { at = f.at; deep = f.cell.deep; tail = f.cell.tail })

  pub pass_zero : (w i : ℕ) → Pass S Q xs w i → w < end S → (i < length xs → Begins (get_or xs i 0) w → ⊥) → Counts S Q xs 0
  pass_zero w i p h n =
      record { upto = omega arith; some = λ z. absurd (omega arith); none = λ z m y l t. pass_none w i p h n m l t }

  pub pass_end : (w i : ℕ) → Pass S Q xs w i → end S ≤ w → Counts S Q xs i
  pass_end w i p h =
      let e : w ≡ end S = omega (arith, p.upto) in
      let t = subst (λ (n : ℕ). Tiles S Q (base S) n (take i xs)) e p.tiles in
      record {
        upto = p.index;
        some = λ z. t;
        none = λ z m y l u. omega (arith, prefix_one S Q xs i m p.index l t u);
      }

  pub pass_out : (w i : ℕ) → Pass S Q xs w i → (w < end S → length xs ≤ i) → (end S ≤ w → i ≡ 0) → Counts S Q xs 0
  pass_out w i p f g =
      ⊎_elim
      (λ (h : end S ≤ w). subst (λ (n : ℕ). Counts S Q xs n) (g h) (pass_end w i p h))
      (λ (h : w < end S). pass_zero w i p h (λ k b. absurd (omega (arith, f h))))
      (le_or_lt (end S) w)

  pub pass_tiled : (w i : ℕ) → Pass S Q xs w i → end S ≤ w → 0 < i → Tiled Q (take i xs)
  pass_tiled w i p h s = record { solid = S; tiling = (pass_end w i p h).some s }
