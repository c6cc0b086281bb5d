-- The sequence 1 to 4: how a call goes on after it, and how it hands on the number that the check gave.
-- `out k` is the call's answer that refuses by k, `rest` what the call says of its answer once the fields are well formed.
use mathlib.Core.Logic.{inl, inr}
use mathlib.Core.Path.{◌≡◌, ap}
use Prim.Native.Nat.{ℕ, ◌<◌}
use native.Mathlib.Omega.{arith}
use Rattle.refusals.specs.Refusals.{Single}
use Rattle.refusals.proofs.Refusals.{need_single, met}
use Rattle.codes.specs.Codes.{solid, face, path, depth, Formed, IsCode, faults, code_faults}

module _ {A : Type 0} (out : ℕ → A) (s f p d : ℕ) (rest : A → Type 0) where
  pub faults_single : (Formed s f p d → Single rest) → Single (faults out s f p d rest)
  faults_single h =
      need_single (λ a. need_single (λ b. need_single (λ c. need_single (λ e. h (record { known = a; on = b; deep = c; tail = e })))))

  -- nothing is at fault
  pub go_on : {a : A} → Formed s f p d → rest a → faults out s f p d rest a
  go_on h r = inr (h.known, inr (h.on, inr (h.deep, inr (h.tail, r))))

  -- a number from a sequence that begins so is handed on: it refuses by one of the four, or the rest says what becomes of it
  pub hand_on : {n : ℕ} (rest₀ : ℕ → Type 0) → faults (λ k. k) s f p d rest₀ n → (rest₀ n → rest (out n)) → faults out s f p d rest (out n)
  hand_on r (inl x) z = inl (x.0, ap out x.1)
  hand_on r (inr (a, inl x)) z = inr (a, inl (x.0, ap out x.1))
  hand_on r (inr (a, inr (b, inl x))) z = inr (a, inr (b, inl (x.0, ap out x.1)))
  hand_on r (inr (a, inr (b, inr (c, inl x)))) z = inr (a, inr (b, inr (c, inl (x.0, ap out x.1))))
  hand_on r (inr (a, inr (b, inr (c, inr (e, x))))) z = inr (a, inr (b, inr (c, inr (e, z x))))

  pub refuses : {n : ℕ} → faults (λ k. k) s f p d (λ n. n ≡ 0) n → (n ≡ 0 → ⊥) → faults out s f p d rest (out n)
  refuses h z = hand_on (λ n. n ≡ 0) h (λ e. absurd (z e))

  -- an answer that refuses by no number met all four
  pub passed : {a : A} → ((k : ℕ) → 0 < k → a ≡ out k → ⊥) → faults out s f p d rest a → Formed s f p d × rest a
  passed n h =
      let w = met (n 1 (omega arith)) h in
      let x = met (n 2 (omega arith)) w.1 in
      let y = met (n 3 (omega arith)) x.1 in
      let z = met (n 4 (omega arith)) y.1 in
      (record { known = w.0; on = x.0; deep = y.0; tail = z.0 }, z.1)

-- the number 0 says that the fields are well formed
pub formed : (s f p d : ℕ) {n : ℕ} → faults (λ k. k) s f p d (λ n. n ≡ 0) n → n ≡ 0 → Formed s f p d
formed s f p d h z = (passed (λ k. k) s f p d (λ n. n ≡ 0) (λ k l e. omega arith) h).0

-- the same for a code
module _ {A : Type 0} (out : ℕ → A) (x : ℕ) (rest : A → Type 0) where
  pub code_single : (IsCode x → Single rest) → Single (code_faults out x rest)
  code_single = faults_single out (solid x) (face x) (path x) (depth x) rest

  pub code_on : {a : A} → IsCode x → rest a → code_faults out x rest a
  code_on = go_on out (solid x) (face x) (path x) (depth x) rest

  pub code_hand_on : {n : ℕ} (rest₀ : ℕ → Type 0) → code_faults (λ k. k) x rest₀ n → (rest₀ n → rest (out n)) → code_faults out x rest (out n)
  code_hand_on = hand_on out (solid x) (face x) (path x) (depth x) rest

  pub code_refused : {n : ℕ} → code_faults (λ k. k) x (λ n. n ≡ 0) n → (n ≡ 0 → ⊥) → code_faults out x rest (out n)
  code_refused = refuses out (solid x) (face x) (path x) (depth x) rest

  pub code_passed : {a : A} → ((k : ℕ) → 0 < k → a ≡ out k → ⊥) → code_faults out x rest a → IsCode x × rest a
  code_passed = passed out (solid x) (face x) (path x) (depth x) rest

pub code_is_formed : (x : ℕ) {n : ℕ} → code_faults (λ k. k) x (λ n. n ≡ 0) n → n ≡ 0 → IsCode x
code_is_formed x = formed (solid x) (face x) (path x) (depth x)
