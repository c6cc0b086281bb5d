-- What a side of a leaf meets has one answer, and so has what is the least.
--
--   met_single   == a side meets one answer
--   least_single == there is one least
--
-- Assumes nothing.
use mathlib.Core.List.{List}
use mathlib.Core.Logic.{◌⊎◌, inl, inr}
use mathlib.Core.Path.{◌≡◌, refl, sym, ◌∙◌, ap}
use Prim.Native.Nat.{ℕ, ◌<◌}
use native.Mathlib.Nat.{le_antisymm}
use native.Mathlib.Omega.{arith}
use Rattle.codes.specs.Codes.{depth}
use Rattle.soundness.specs.Sides.{MetIs, LeastOf}
use Rattle.soundness.specs.declared.Met.{Met}
use Rattle.soundness.specs.declared.Met.TheVariants.{Larger, Equal, Smaller, Open}

pub least_single : (P : ℕ → Type 0) (v w : ℕ) → LeastOf P v → LeastOf P w → v ≡ w
least_single P v w a b = le_antisymm (a.least w b.is) (b.least v a.is)

-- two ascending pairs with the same members
same_two : (b c b' c' : ℕ) → b < c → b' < c' → (b' ≡ b) ⊎ (b' ≡ c) → (c' ≡ b) ⊎ (c' ≡ c) → (b ≡ b') × (c ≡ c')
same_two b c b' c' h k (inl p) (inl q) = absurd (omega arith)
same_two b c b' c' h k (inl p) (inr q) = (sym p, sym q)
same_two b c b' c' h k (inr p) (inl q) = absurd (omega arith)
same_two b c b' c' h k (inr p) (inr q) = absurd (omega arith)

module _ (L : List ℕ) (a s : ℕ) where
  pub met_single : (m m' : Met) → MetIs L a s m → MetIs L a s m' → m ≡ m'
  met_single (Larger b) (Larger b') p q = ap Larger (sym (p.0.no_other b' q.0.leaf q.0.meets))
  met_single (Larger b) (Equal b') p q = absurd (omega (arith, ap depth (p.0.no_other b' q.0.leaf q.0.meets), p.1, q.1))
  met_single (Larger b) (Smaller b' c') p q = absurd (omega (arith, ap depth (p.0.no_other b' q.leaf q.meets), p.1, q.deeper))
  met_single (Larger b) Open p q = absurd (q b p.0.leaf p.0.meets)
  met_single (Equal b) (Larger b') p q = absurd (omega (arith, ap depth (p.0.no_other b' q.0.leaf q.0.meets), p.1, q.1))
  met_single (Equal b) (Equal b') p q = ap Equal (sym (p.0.no_other b' q.0.leaf q.0.meets))
  met_single (Equal b) (Smaller b' c') p q = absurd (omega (arith, ap depth (p.0.no_other b' q.leaf q.meets), p.1, q.deeper))
  met_single (Equal b) Open p q = absurd (q b p.0.leaf p.0.meets)
  met_single (Smaller b c) (Larger b') p q = absurd (omega (arith, ap depth (q.0.no_other b p.leaf p.meets), q.1, p.deeper))
  met_single (Smaller b c) (Equal b') p q = absurd (omega (arith, ap depth (q.0.no_other b p.leaf p.meets), q.1, p.deeper))
  met_single (Smaller b c) (Smaller b' c') p q =
      let t = same_two b c b' c' p.order q.order (p.no_other b' q.leaf q.meets) (p.no_other c' q.leaf' q.meets') in
      ap (λ (x : ℕ). Smaller x c) t.0 ∙ ap (λ (x : ℕ). Smaller b' x) t.1
  met_single (Smaller b c) Open p q = absurd (q b p.leaf p.meets)
  met_single Open (Larger b') p q = absurd (p b' q.0.leaf q.0.meets)
  met_single Open (Equal b') p q = absurd (p b' q.0.leaf q.0.meets)
  met_single Open (Smaller b' c') p q = absurd (p b' q.leaf q.meets)
  met_single Open Open p q = refl
