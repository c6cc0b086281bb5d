-- A sequence of refusals leaves one answer where its end does; an answer that is no refusal met all that was asked for; where each
-- question is told by a test, an answer is computed.
-- Assumes nothing.
use mathlib.Core.Bool.{Bool, true, false, cond}
use mathlib.Core.Logic.{◌⊎◌, inl, inr}
use mathlib.Core.Path.{◌≡◌, refl, sym, ◌∙◌}
use Rattle.refusals.specs.Refusals.{need, Single}
use Rattle.refusals.specs.Answers.{Tells}

-- the end may use what was asked for
pub need_single : {A : Type 0} {P : Type 0} {out : A} {rest : A → Type 0} → (P → Single rest) → Single (need P out rest)
need_single h a b (inl p) (inl q) = p.1 ∙ sym q.1
need_single h a b (inl p) (inr q) = absurd (p.0 q.0)
need_single h a b (inr p) (inl q) = absurd (q.0 p.0)
need_single h a b (inr p) (inr q) = h p.0 a b p.1 q.1

pub is_single : {A : Type 0} {v : A} → Single (λ (a : A). a ≡ v)
is_single a b p q = p ∙ sym q

pub met : {A : Type 0} {P X : Type 0} {a out : A} → (a ≡ out → ⊥) → ((P → ⊥) × (a ≡ out)) ⊎ (P × X) → P × X
met h (inl x) = absurd (h x.1)
met h (inr x) = x

-- an answer that meets a promise: where each question is told by a test, it is computed
pub record Answered {A : Type 0} (Q : A → Type 0) : Type 0 where
  pub answer : A
  pub meets : Q answer

unfoldable pub ask : {A : Type 0} {P : Type 0} {out : A} {rest : A → Type 0} (b : Bool) → Tells b P → Answered rest → Answered (need P out rest)
ask {P = P} {out = out} {rest = rest} b t r = record { answer = cond b r.answer out; meets = go b t }
  where
    go : (b : Bool) → Tells b P → need P out rest (cond b r.answer out)
    go true t = inr (t.yes refl, r.meets)
    go false t = inl (t.no refl, refl)

unfoldable pub answer_is : {A : Type 0} (v : A) → Answered (λ (a : A). a ≡ v)
answer_is v = record { answer = v; meets = refl }
