-- In slots that hold leaves and then zeros, one made four is the refined leaves and then zeros, and four made one the coarsened.
use mathlib.Core.List.{List, ◌∷◌, ◌++◌}
use mathlib.Core.Path.{◌≡◌, sym, ◌∙◌, ap, ap₂}
use Prim.Native.Nat.{ℕ, suc, ◌+◌, ◌-◌, ◌<◌, ◌≤◌}
use native.Mathlib.Omega.{arith}
use lib.ListN.{length, get_or, take, drop, replicate, get_or-append}
use lib.Seq.{length-take-le, split_at, drop-cons}
use Rattle.codes.specs.Places.{child_code}
use Rattle.soundness.specs.Leaves.{leaves, pad}
use Rattle.soundness.specs.Changes.{children, refined, coarsened}
use Rattle.soundness.proofs.Slots.{refine_at, coarsen_at}
use Rattle.soundness.proofs.Fresh.{leaves_le}
use Rattle.slots.specs.Slots.{split_slot, join_at}
use Rattle.slots.proofs.Slots.{split_pad, join_pad}
use Rattle.leaves.specs.Leaves.{Filled}

pub filled_le : (xs : List ℕ) (n : ℕ) → Filled xs n → n ≤ length xs
filled_le xs n F = omega (arith, F.count, leaves_le xs)

module _ (xs : List ℕ) (n i : ℕ) (F : Filled xs n) where
  -- the slots are the leaves and zeros
  abbrev zeros : List ℕ
  zeros = replicate (length xs - length (leaves xs)) 0

  pub slot_leaf : i < n → get_or xs i 0 ≡ get_or (leaves xs) i 0
  slot_leaf l = ap (λ (t : List ℕ). get_or t i 0) F.form ∙ get_or-append (leaves xs) zeros 0 i (omega (arith, F.count))

  -- what stands before the slot
  front_length : i < n → length (take i (leaves xs)) ≡ i
  front_length l = length-take-le i (leaves xs) (omega (arith, F.count))

  pub split_is : (x : ℕ) → i < n → get_or xs i 0 ≡ x → n + 3 ≤ length xs →
      split_slot xs i n (child_code x 0) (child_code x 1) (child_code x 2) (child_code x 3) ≡ pad (length xs) (refined x (leaves xs))
  split_is x low f r =
      let L = leaves xs in
      let m = length xs in
      let pre = take i L in
      let a = child_code x 0 in
      let b = child_code x 1 in
      let c = child_code x 2 in
      let d = child_code x 3 in
      let post = drop (suc i) L in
      let h : i < length L = omega (arith, F.count) in
      let g : get_or L i 0 ≡ x = sym (slot_leaf low) ∙ f in
      let e : L ≡ pre ++ (x ∷ post) = split_at L i 0 h ∙ ap (λ (y : ℕ). pre ++ (y ∷ post)) g in
      ap (λ (t : List ℕ). split_slot t i n a b c d) F.form
      ∙ ap₂ (λ (j k : ℕ). split_slot (pad m L) j k a b c d) (sym (front_length (omega arith))) (sym F.count)
      ∙ ap (λ (t : List ℕ). split_slot (pad m t) (length pre) (length t) a b c d) e
      ∙ split_pad m pre post x a b c d (omega (arith, F.count, ap length e))
      ∙ ap (λ (y : ℕ). pad m (pre ++ (children y ++ post))) (sym g)
      ∙ ap (pad m) (sym (refine_at L i F.ascend h))
      ∙ ap (λ (y : ℕ). pad m (refined y L)) g

  pub join_is : (c : ℕ) → i + 4 ≤ n → get_or xs i 0 ≡ child_code c 0 → join_at xs i n c ≡ pad (length xs) (coarsened c (leaves xs))
  join_is c r f =
      let L = leaves xs in
      let m = length xs in
      let pre = take i L in
      let j : ℕ → ℕ = λ k. get_or L k 0 in
      let post = drop (suc (suc (suc (suc i)))) L in
      let len = F.count in
      let h : i < length L = omega arith in
      let four : drop (suc i) L ≡ j (suc i) ∷ j (suc (suc i)) ∷ j (suc (suc (suc i))) ∷ post =
      drop-cons L (suc i) 0 (omega arith)
      ∙ ap (λ (t : List ℕ). j (suc i) ∷ t) (drop-cons L (suc (suc i)) 0 (omega arith) ∙ ap (λ (t : List ℕ). j (suc (suc i)) ∷ t) (drop-cons L (suc (suc (suc i))) 0 (omega arith))) in
      let e : L ≡ pre ++ (j i ∷ j (suc i) ∷ j (suc (suc i)) ∷ j (suc (suc (suc i))) ∷ post) = split_at L i 0 h ∙ ap (λ (t : List ℕ). pre ++ (j i ∷ t)) four in
      ap (λ (t : List ℕ). join_at t i n c) F.form
      ∙ ap₂ (λ (k l : ℕ). join_at (pad m L) k l c) (sym (front_length (omega arith))) (sym F.count)
      ∙ ap (λ (t : List ℕ). join_at (pad m t) (length pre) (length t) c) e
      ∙ join_pad m pre post (j i) (j (suc i)) (j (suc (suc i))) (j (suc (suc (suc i)))) c (omega (arith, leaves_le xs, ap length e))
      ∙ ap (pad m) (sym (coarsen_at L c i F.ascend h (sym (slot_leaf (omega arith)) ∙ f)))
