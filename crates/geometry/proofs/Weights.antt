-- Laws of lists of weights.
-- Assumes nothing.
use mathlib.Core.List.{List, [], ◌∷◌}
use mathlib.Core.Path.{◌≡◌, refl, ap, ap₂, sym, ◌∙◌}
use Prim.Native.Nat.{ℕ, zero, suc, ◌+◌, ◌<◌, ◌≤◌}
use native.Mathlib.Nat.{add_comm, add-zero, zero-add}
use native.Mathlib.Omega.{arith}
use lib.ListN.{length, get_or, set, replicate, length-replicate}
use Rattle.geometry.specs.Weights.{◌⊕◌, unit, δ, total}

-- sums

pub ⊕-comm : (xs ys : List ℕ) → xs ⊕ ys ≡ ys ⊕ xs
unfolding ◌⊕◌
⊕-comm [] [] = refl
⊕-comm [] (y ∷ ys) = refl
⊕-comm (x ∷ xs) [] = refl
⊕-comm (x ∷ xs) (y ∷ ys) = ap₂ ◌∷◌ (add_comm x y) (⊕-comm xs ys)

pub get_or-⊕ : (xs ys : List ℕ) (v : ℕ) → get_or (xs ⊕ ys) v 0 ≡ get_or xs v 0 + get_or ys v 0
unfolding ◌⊕◌
get_or-⊕ [] ys v = sym (zero-add (get_or ys v 0))
get_or-⊕ (x ∷ xs) [] v = sym (add-zero (get_or (x ∷ xs) v 0))
get_or-⊕ (x ∷ xs) (y ∷ ys) zero = refl
get_or-⊕ (x ∷ xs) (y ∷ ys) (suc v) = get_or-⊕ xs ys v

pub length-⊕ : (n : ℕ) (xs ys : List ℕ) → length xs ≡ n → length ys ≡ n → length (xs ⊕ ys) ≡ n
unfolding ◌⊕◌
length-⊕ n [] ys h k = k
length-⊕ n (x ∷ xs) [] h k = h
length-⊕ n (x ∷ xs) (y ∷ ys) h k = ap suc (length-⊕ (length xs) xs ys refl (omega arith)) ∙ h

pub total-⊕ : (xs ys : List ℕ) → total (xs ⊕ ys) ≡ total xs + total ys
unfolding total ◌⊕◌
total-⊕ [] ys = omega arith
total-⊕ (x ∷ xs) [] = omega arith
total-⊕ (x ∷ xs) (y ∷ ys) = omega (arith, total-⊕ xs ys)

-- each weight is part of the sum of all
pub weight≤total : (xs : List ℕ) (v : ℕ) → get_or xs v 0 ≤ total xs
unfolding total
weight≤total [] v = omega arith
weight≤total (x ∷ xs) zero = omega arith
weight≤total (x ∷ xs) (suc v) = omega (arith, weight≤total xs v)

-- a weight of 1 at one place

get_or-zeros : (n w : ℕ) → ◌≡◌ {A = ℕ} (get_or (replicate n 0) w 0) 0
get_or-zeros zero w = refl
get_or-zeros (suc n) zero = refl
get_or-zeros (suc n) (suc w) = get_or-zeros n w

pub get_or-unit : (n v w : ℕ) → v < n → get_or (unit n v) w 0 ≡ δ v w
unfolding unit δ
get_or-unit zero v w h = omega arith
get_or-unit (suc n) zero zero h = refl
get_or-unit (suc n) zero (suc w) h = get_or-zeros n w
get_or-unit (suc n) (suc v) zero h = refl
get_or-unit (suc n) (suc v) (suc w) h = get_or-unit n v w (omega arith)

-- it is put into zeros
pub unit_set : (n v : ℕ) → v < n → set (replicate n 0) v 1 ≡ unit n v
unfolding unit
unit_set zero v h = absurd (omega arith)
unit_set (suc n) zero h = refl
unit_set (suc n) (suc v) h = ap (λ (xs : List ℕ). 0 ∷ xs) (unit_set n v (omega arith))

pub length-unit : (n v : ℕ) → length (unit n v) ≡ n
unfolding unit
length-unit zero v = refl
length-unit (suc n) zero = ap suc (length-replicate n 0)
length-unit (suc n) (suc v) = ap suc (length-unit n v)

total_zeros : (n : ℕ) → total (replicate n 0) ≡ 0
unfolding total
total_zeros zero = refl
total_zeros (suc n) = omega (arith, total_zeros n)

pub total_unit : (n v : ℕ) → v < n → total (unit n v) ≡ 1
unfolding total unit
total_unit zero v h = omega arith
total_unit (suc n) zero h = omega (arith, total_zeros n)
total_unit (suc n) (suc v) h = omega (arith, total_unit n v (omega arith))

pub δ_same : (v : ℕ) → δ v v ≡ 1
unfolding δ
δ_same zero = refl
δ_same (suc v) = δ_same v

pub δ_other : (v w : ℕ) → (v ≡ w → ⊥) → δ v w ≡ 0
unfolding δ
δ_other zero zero h = absurd (h refl)
δ_other zero (suc w) h = refl
δ_other (suc v) zero h = refl
δ_other (suc v) (suc w) h = δ_other v w (λ e. h (ap suc e))

pub δ_eq : (v w : ℕ) → 1 ≤ δ v w → v ≡ w
unfolding δ
δ_eq zero zero h = refl
δ_eq zero (suc w) h = omega arith
δ_eq (suc v) zero h = omega arith
δ_eq (suc v) (suc w) h = ap suc (δ_eq v w h)
