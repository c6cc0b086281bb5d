-- The leaves at the front of a slice: at most one prefix is a tiling, and it goes on where it has to.
--
--   prefix_one      == two prefixes that are tilings are one
--   Fits S xs w i m == slot i is a code of the solid, begins at the place w, and stands before slot m
--   fits            == where the first i slots lead to w, the next one fits, if some prefix of m is a tiling
--   leaves_take     == the leaves of slots that are a tiling and then zeros
--
-- Assumes nothing.
use mathlib.Core.List.{List, [], ◌∷◌, ◌++◌}
use mathlib.Core.Logic.{⊎_elim}
use mathlib.Core.Path.{◌≡◌, sym, ◌∙◌, ap, subst}
use Prim.Native.Nat.{ℕ, suc, ◌-◌, ◌<◌, ◌≤◌}
use native.Mathlib.Nat.{le_antisymm}
use native.Mathlib.Omega.{arith}
use lib.ListN.{length, get_or, take, drop, replicate, take-append-drop}
use lib.Seq.{length-take-le, split_at, take-take, get_or-take}
use Rattle.codes.specs.Places.{place, past, base, end, CodeOn}
use Rattle.soundness.specs.Regions.{InFaces}
use Rattle.soundness.specs.Leaves.{leaves}
use Rattle.soundness.specs.Inner.{Tiles, Tiling}
use Rattle.soundness.proofs.Cells.{le_or_lt}
use Rattle.soundness.proofs.Tiles.{tiling_covers, next_place, no_shorter}
use Rattle.soundness.proofs.Fresh.{cell_pos, leaves_pad}

-- a tiling that goes on after it has come to its end
no_more : (S Q a : ℕ) (A : List ℕ) (x : ℕ) (B : List ℕ) → Tiles S Q a (end S) A → Tiles S Q a (end S) (A ++ (x ∷ B)) → ⊥
no_more S Q a [] x B t u = t.none (place x) u.0.gap.to u.0.cell.below u.0.here
no_more S Q a (y ∷ A) x B t u = no_more S Q (past y) A x B t.1 u.1

module _ (S Q : ℕ) (xs : List ℕ) where
  -- what stands in a longer prefix after a shorter one
  longer : (i m : ℕ) → i < m → m ≤ length xs → take m xs ≡ take i xs ++ (get_or (take m xs) i 0 ∷ drop (suc i) (take m xs))
  longer i m h k =
      let M = take m xs in
      let l : length M ≡ m = length-take-le m xs k in
      split_at M i 0 (omega arith) ∙ ap (λ (t : List ℕ). t ++ (get_or M i 0 ∷ drop (suc i) M)) (take-take i m xs (omega arith))

  no_later : (n m : ℕ) → m ≤ length xs → Tiling S Q (take n xs) → Tiling S Q (take m xs) → n < m → ⊥
  no_later n m h t u l =
      no_more S Q (base S) (take n xs) (get_or (take m xs) n 0) (drop (suc n) (take m xs)) t (subst (Tiling S Q) (longer n m l h) u)

  pub prefix_one : (n m : ℕ) → n ≤ length xs → m ≤ length xs → Tiling S Q (take n xs) → Tiling S Q (take m xs) → n ≡ m
  prefix_one n m h k t u =
      ⊎_elim
      (λ (l : n ≤ m). ⊎_elim (λ (l' : m ≤ n). le_antisymm l l') (λ (l' : n < m). absurd (no_later n m k t u l')) (le_or_lt m n))
      (λ (l : m < n). absurd (no_later m n h u t l))
      (le_or_lt n m)

  pub record Fits (w i m : ℕ) : Type 0 where
    pub more : i < m
    pub at : place (get_or xs i 0) ≡ w
    pub cell : CodeOn S (get_or xs i 0)

  pub fits : (w i m : ℕ) → m ≤ length xs → Tiles S Q (base S) w (take i xs) → InFaces Q w → w < end S → Tiling S Q (take m xs) → Fits w i m
  fits w i m k t q l u =
      ⊎_elim
      (λ (h : m ≤ i).
      let e : take i xs ≡ take m xs ++ drop m (take i xs) =
      sym (take-append-drop m (take i xs)) ∙ ap (λ (t : List ℕ). t ++ drop m (take i xs)) (take-take m i xs h) in
      absurd (no_shorter S Q (base S) w (end S) (take m xs) (drop m (take i xs)) (subst (Tiles S Q (base S) w) e t) q l u))
      (λ (h : i < m).
      let x = get_or (take m xs) i 0 in
      let r = next_place S Q (base S) w (end S) x (take i xs) (drop (suc i) (take m xs)) t q (subst (Tiling S Q) (longer i m h k) u) in
      let f : x ≡ get_or xs i 0 = get_or-take m xs i 0 h in
      record { more = h; at = ap place (sym f) ∙ r.1; cell = subst (CodeOn S) f r.0.cell })
      (le_or_lt m i)

  pub leaves_take : (n : ℕ) → Tiling S Q (take n xs) → drop n xs ≡ replicate (length xs - n) 0 → leaves xs ≡ take n xs
  leaves_take n t z =
      let C = tiling_covers S Q (take n xs) t in
      ap leaves (sym (take-append-drop n xs) ∙ ap (λ (k : List ℕ). take n xs ++ k) z)
      ∙ leaves_pad (length xs - n) (take n xs) (λ x m. cell_pos x (C.cells x m))
