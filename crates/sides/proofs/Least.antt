-- The least number with a property, if there is one: of the same property said in another way, and of two properties together.
use mathlib.Core.Logic.{◌⊎◌, inl, inr, ⊎_elim}
use mathlib.Core.Path.{◌≡◌}
use Prim.Native.Nat.{ℕ, ◌<◌, ◌≤◌}
use native.Mathlib.Omega.{arith}
use Rattle.std.proofs.Common.{min, Option, None, MatchOption}
use Rattle.std.proofs.Common as std
use Rattle.soundness.proofs.Cells.{le_or_lt}
use Rattle.soundness.specs.Sides.{Some, LeastOf}
use Rattle.sides.specs.Sides.{Blocker}

pub blocker_same : (P R : ℕ → Type 0) (r : Option ℕ) → ((x : ℕ) → P x → R x) → ((x : ℕ) → R x → P x) → Blocker P r → Blocker R r
blocker_same P R None to from n = λ s. n (record { one = s.one; is = from s.one s.is })
blocker_same P R (std.Some b) to from l = record { is = to b l.is; least = λ x p. l.least x (from x p) }

lesser : (a b r : ℕ) → r ≡ min a b → (r ≡ a) ⊎ (r ≡ b)
lesser a b r e = ⊎_elim (λ (h : a ≤ b). inl (omega arith)) (λ (h : b < a). inr (omega arith)) (le_or_lt a b)

module _ (P Q R : ℕ → Type 0) (left : (x : ℕ) → P x → R x) (right : (x : ℕ) → Q x → R x) (from : (x : ℕ) → R x → P x ⊎ Q x) where
  -- nothing has Q
  pub blocker_left : (a : Option ℕ) → (Some Q → ⊥) → Blocker P a → Blocker R a
  blocker_left a n = blocker_same P R a left (λ x p. other x (from x p))
    where
      other : (x : ℕ) → P x ⊎ Q x → P x
      other x (inl p) = p
      other x (inr q) = absurd (n (record { one = x; is = q }))

  pub blocker_either : (a : Option ℕ) (b r : ℕ) → Blocker P a → LeastOf Q b → MatchOption a (r ≡ b) (λ v. r ≡ min v b) → LeastOf R r
  blocker_either None b r n l e = record { is = rw e (right b l.is); least = λ x p. under x (from x p) }
    where
      under : (x : ℕ) → P x ⊎ Q x → r ≤ x
      under x (inl p) = absurd (n (record { one = x; is = p }))
      under x (inr q) = omega (arith, l.least x q)
  blocker_either (std.Some a) b r k l e = record { is = pick r (lesser a b r e); least = λ x p. under x (from x p) }
    where
      pick : (m : ℕ) → (m ≡ a) ⊎ (m ≡ b) → R m
      pick m (inl e) = rw e (left a k.is)
      pick m (inr e) = rw e (right b l.is)

      under : (x : ℕ) → P x ⊎ Q x → r ≤ x
      under x (inl p) = omega (arith, k.least x p)
      under x (inr q) = omega (arith, l.least x q)
