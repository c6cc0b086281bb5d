-- Sides by number: the way back, and the digits of the two children on a side.
--
--   back_back    == the way back is led back by the side itself
--   first_second == the two digits ascend, and are digits
--   edge_four    == what is on a side is a digit
--   edge_or      == a digit is on a side or is not
--
-- Assumes nothing.
use mathlib.Core.Logic.{◌⊎◌, inl, inr, ⊎_elim}
use mathlib.Core.Path.{◌≡◌, refl}
use Prim.Native.Nat.{ℕ, zero, suc, ◌<◌}
use native.Mathlib.Omega.{arith}
use Rattle.steps.specs.Edges.{back_no, first, second, OnEdge}
use Rattle.soundness.proofs.Cells.{eq_or_not}

pub back_back : (s : ℕ) → s < 3 → back_no (back_no s) ≡ s
back_back zero h = refl
back_back (suc zero) h = refl
back_back (suc (suc zero)) h = refl
back_back (suc (suc (suc n))) h = absurd (omega arith)

pub first_second : (s : ℕ) → (first s < second s) × (second s < 4)
unfolding first second
first_second zero = (omega arith, omega arith)
first_second (suc zero) = (omega arith, omega arith)
first_second (suc (suc n)) = (omega arith, omega arith)

pub edge_four : (s q : ℕ) → OnEdge s q → q < 4
edge_four s q (inl e) = omega (arith, first_second s)
edge_four s q (inr e) = omega (arith, first_second s)

pub edge_or : (s q : ℕ) → OnEdge s q ⊎ (OnEdge s q → ⊥)
edge_or s q =
    ⊎_elim
    (λ e. inl (inl e))
    (λ n. ⊎_elim (λ e. inl (inr e)) (λ m. inr (λ h. ⊎_elim n m h)) (eq_or_not q (second s)))
    (eq_or_not q (first s))
