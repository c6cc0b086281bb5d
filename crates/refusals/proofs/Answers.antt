-- Laws of answers: done is no refusal; yes or no is one answer; tests on numbers tell what they say.
-- Assumes nothing.
use mathlib.Core.Bool.{Bool, true, false, true≢false, ◌&&◌}
use mathlib.Core.Path.{◌≡◌, refl, ap, sym}
use Prim.Native.Nat.{ℕ, ◌<◌, ◌≤◌}
use native.Mathlib.Omega.{arith}
use borrow.Author.Tests.{leb-true, leb-false, ltb-true, ltb-false, eqb-true, eqb-false}
use lib.Dec.{leb, ltb, eqb}
use Rattle.refusals.specs.Refusals.{Single}
use Rattle.refusals.specs.Answers.{Reply, done, refused, Tells}

pub done_differs : (v k : ℕ) → 0 < k → done v ≡ refused k → ⊥
done_differs v k h e = omega (arith, ap (λ (r : Reply). r.number) e)

pub done_one : {v w : ℕ} → done v ≡ done w → v ≡ w
done_one e = ap (λ (r : Reply). r.value) e

pub tells_yes : {P : Type 0} → P → Tells true P
tells_yes p = record { yes = λ e. p; no = λ e q. true≢false e }

pub tells_no : {P : Type 0} → (P → ⊥) → Tells false P
tells_no n = record { yes = λ e. absurd (true≢false (sym e)); no = λ e q. n q }

pub tells_single : {P : Type 0} → Single (λ (b : Bool). Tells b P)
tells_single true true s t = refl
tells_single true false s t = absurd (t.no refl (s.yes refl))
tells_single false true s t = absurd (s.no refl (t.yes refl))
tells_single false false s t = refl

pub tells_le : (m n : ℕ) → Tells (leb m n) (m ≤ n)
tells_le m n = record { yes = leb-true m n; no = λ e h. omega (arith, leb-false m n e) }

pub tells_lt : (m n : ℕ) → Tells (ltb m n) (m < n)
tells_lt m n = record { yes = ltb-true m n; no = λ e h. omega (arith, ltb-false m n e) }

pub tells_eq : (m n : ℕ) → Tells (eqb m n) (m ≡ n)
tells_eq m n = record { yes = eqb-true m n; no = eqb-false m n }

pub tells_both : {P Q : Type 0} (a b : Bool) → Tells a P → Tells b Q → Tells (a && b) (P × Q)
tells_both true true s t = tells_yes (s.yes refl, t.yes refl)
tells_both true false s t = tells_no (λ h. t.no refl h.1)
tells_both false b s t = tells_no (λ h. s.no refl h.0)
