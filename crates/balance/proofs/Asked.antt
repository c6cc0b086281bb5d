-- The sides that a leaf asks for, by its last two digits in one number.
use mathlib.Core.Bool.{Bool, true, false, true≢false}
use mathlib.Core.List.{List}
use mathlib.Core.Logic.{◌⊎◌, inl, inr, ⊎_elim}
use mathlib.Core.Path.{◌≡◌, sym, ◌∙◌}
use Prim.Native.Nat.{ℕ, zero, suc, ◌+◌, ◌*◌, ◌%◌, ◌<◌, ◌≤◌}
use native.Mathlib.Omega.{arith}
use Rattle.refusals.specs.Answers.{Tells}
use Rattle.codes.specs.Codes.{depth}
use Rattle.codes.specs.Places.{parent_code, last_digit}
use Rattle.steps.specs.Stepped.{step_code}
use Rattle.steps.specs.Edges.{first, second, OnEdge}
use Rattle.soundness.specs.Inner.{Fine, Asked}
use Rattle.balance.specs.Tiled.{SidesFine}

-- the side s is asked for at the two digits v
abbrev pub Row : ℕ → ℕ → Type 0
Row zero v = (v ≡ 0b0000) ⊎ (v ≡ 0b0100)
Row (suc zero) v = (v ≡ 0b0000) ⊎ (v ≡ 0b1100)
Row (suc (suc n)) v = (v ≡ 0b0101) ⊎ (v ≡ 0b1101)

digit_low : (x : ℕ) → last_digit x < 4
unfolding last_digit
digit_low x = omega arith

row_not : {v k l : ℕ} {P : Type 0} → (v ≡ k → ⊥) → (v ≡ l → ⊥) → (v ≡ k) ⊎ (v ≡ l) → P
row_not n m (inl e) = absurd (n e)
row_not n m (inr e) = absurd (m e)

module _ (a v : ℕ) (e : v ≡ last_digit (parent_code a) * 4 + last_digit a) where
  pub asked_row : (s : ℕ) → Asked s a → Row s v
  unfolding first second
  asked_row zero q = ⊎_elim (λ u. inl (omega (arith, q.digit))) (λ u. inr (omega (arith, q.digit))) q.above
  asked_row (suc zero) q = ⊎_elim (λ u. inl (omega (arith, q.digit))) (λ u. inr (omega (arith, q.digit))) q.above
  asked_row (suc (suc n)) q = ⊎_elim (λ u. inl (omega (arith, q.digit))) (λ u. inr (omega (arith, q.digit))) q.above

  row_digits : (s : ℕ) → Row s v → (last_digit a ≡ first s) × OnEdge s (last_digit (parent_code a))
  unfolding first second
  row_digits zero (inl u) = (omega (arith, digit_low a), inl (omega (arith, digit_low a)))
  row_digits zero (inr u) = (omega (arith, digit_low a), inr (omega (arith, digit_low a)))
  row_digits (suc zero) (inl u) = (omega (arith, digit_low a), inl (omega (arith, digit_low a)))
  row_digits (suc zero) (inr u) = (omega (arith, digit_low a), inr (omega (arith, digit_low a)))
  row_digits (suc (suc n)) (inl u) = (omega (arith, digit_low a), inl (omega (arith, digit_low a)))
  row_digits (suc (suc n)) (inr u) = (omega (arith, digit_low a), inr (omega (arith, digit_low a)))

  module _ (Q : ℕ) (L : List ℕ) where
    -- the sides asked for are enough
    sides_of : (Row 0 v → Fine Q L (step_code 0 (parent_code a))) → (Row 1 v → Fine Q L (step_code 1 (parent_code a))) →
        (Row 2 v → Fine Q L (step_code 2 (parent_code a))) → SidesFine Q L a
    sides_of f g h zero q = f (asked_row 0 q)
    sides_of f g h (suc zero) q = g (asked_row 1 q)
    sides_of f g h (suc (suc zero)) q = h (asked_row 2 q)
    sides_of f g h (suc (suc (suc n))) q = absurd (omega (arith, q.low))

    pub row_other : (v ≡ 0b0000 → ⊥) → (v ≡ 0b0100 → ⊥) → (v ≡ 0b1100 → ⊥) → ((v ≡ 0b0101) ⊎ (v ≡ 0b1101) → ⊥) → SidesFine Q L a
    row_other n m o p = sides_of (row_not n m) (row_not n o) (λ r. absurd (p r))

    module _ (d : 2 ≤ depth a) {b : Bool} where
      -- a side that is asked for tells of all, where the others are fine
      side_tells : (s : ℕ) → s < 3 → Row s v → (b ≡ true → SidesFine Q L a) → Tells b (Fine Q L (step_code s (parent_code a))) → Tells b (SidesFine Q L a)
      side_tells s l r f t = record {
        yes = f;
        no = λ w g. t.no w (g s (record { low = l; two = d; digit = (row_digits s r).0; above = (row_digits s r).1 }));
      }

      -- the rows

      pub row_0000 : v ≡ 0b0000 → Fine Q L (step_code 0 (parent_code a)) → Tells b (Fine Q L (step_code 1 (parent_code a))) → Tells b (SidesFine Q L a)
      row_0000 k f t = side_tells 1 (omega arith) (inl k) (λ w. sides_of (λ r. f) (λ r. t.yes w) (row_not (λ r. omega arith) (λ r. omega arith))) t

      pub row_0000_no : v ≡ 0b0000 → b ≡ false → Tells b (Fine Q L (step_code 0 (parent_code a))) → Tells b (SidesFine Q L a)
      row_0000_no k n t = side_tells 0 (omega arith) (inl k) (λ w. absurd (true≢false (sym w ∙ n))) t

      pub row_0100 : v ≡ 0b0100 → Tells b (Fine Q L (step_code 0 (parent_code a))) → Tells b (SidesFine Q L a)
      row_0100 k t =
          let none_1 : Row 1 v → Fine Q L (step_code 1 (parent_code a)) = row_not (λ r. omega arith) (λ r. omega arith) in
          let none_2 : Row 2 v → Fine Q L (step_code 2 (parent_code a)) = row_not (λ r. omega arith) (λ r. omega arith) in
          side_tells 0 (omega arith) (inr k) (λ w. sides_of (λ r. t.yes w) none_1 none_2) t

      pub row_1100 : v ≡ 0b1100 → Tells b (Fine Q L (step_code 1 (parent_code a))) → Tells b (SidesFine Q L a)
      row_1100 k t =
          let none_0 : Row 0 v → Fine Q L (step_code 0 (parent_code a)) = row_not (λ r. omega arith) (λ r. omega arith) in
          let none_2 : Row 2 v → Fine Q L (step_code 2 (parent_code a)) = row_not (λ r. omega arith) (λ r. omega arith) in
          side_tells 1 (omega arith) (inr k) (λ w. sides_of none_0 (λ r. t.yes w) none_2) t

      pub row_0101_1101 : (v ≡ 0b0101) ⊎ (v ≡ 0b1101) → Tells b (Fine Q L (step_code 2 (parent_code a))) → Tells b (SidesFine Q L a)
      row_0101_1101 k t =
          let five : 5 ≤ v = ⊎_elim (λ r. omega arith) (λ r. omega arith) k in
          let odd : v % 2 ≡ 1 = ⊎_elim (λ r. omega arith) (λ r. omega arith) k in
          let none_0 : Row 0 v → Fine Q L (step_code 0 (parent_code a)) = row_not (λ r. omega arith) (λ r. omega arith) in
          let none_1 : Row 1 v → Fine Q L (step_code 1 (parent_code a)) = row_not (λ r. omega arith) (λ r. omega arith) in
          side_tells 2 (omega arith) k (λ w. sides_of none_0 none_1 (λ r. t.yes w)) t
