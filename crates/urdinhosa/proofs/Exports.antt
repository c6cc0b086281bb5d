-- What crosses to C is single where the reply is.
use mathlib.Core.List.{List}
use mathlib.Core.Logic.{inl, inr}
use mathlib.Core.Path.{◌≡◌, ap, sym, ◌∙◌}
use Prim.Native.Nat.{ℕ, ◌^◌, ◌<◌, ◌≤◌}
use native.Mathlib.Omega.{arith}
use Rattle.std.specs.Prelude.{Result, Ok, Err}
use Rattle.refusals.specs.Refusals.{Single}
use Rattle.refusals.specs.Answers.{Reply, number, reply}
use Rattle.refusals.specs.declared.Refusal.{Refusal}
use Rattle.refusals.specs.declared.Refusal.TheVariants as refusal
use Rattle.codes.specs.Codes.{IsCode}
use Rattle.codes.specs.Calls.{Unpacking}
use Rattle.codes.proofs.Calls.{unpack_single}
use Rattle.mesh.specs.Answers.{Outcome}
use Rattle.mesh.specs.Calls.{Freshened}
use Rattle.urdinhosa.specs.Exports.{one_number, Gives, values, Writes}

-- a refusal's number is not that of a call that is done
some_number : (e : Refusal) → 0 < number e
some_number refusal.Solid = omega arith
some_number refusal.Face = omega arith
some_number refusal.Depth = omega arith
some_number refusal.Tail = omega arith
some_number refusal.Direction = omega arith
some_number refusal.Digit = omega arith
some_number refusal.Deep = omega arith
some_number refusal.Root = omega arith
some_number refusal.Point = omega arith
some_number refusal.Buffer = omega arith
some_number refusal.Mesh = omega arith
some_number refusal.NotLeaf = omega arith
some_number refusal.NotFour = omega arith
some_number (refusal.Blocked b) = omega arith
some_number refusal.Room = omega arith

-- one reply is one number
one : (a b : Result ℕ Refusal) → reply a ≡ reply b → one_number a ≡ one_number b
one (Ok x) (Ok y) e = ap (λ (r : Reply). r.value) e
one (Ok x) (Err f) e = absurd (omega (arith, some_number f, ap (λ (r : Reply). r.number) e))
one (Err f) (Ok y) e = absurd (omega (arith, some_number f, ap (λ (r : Reply). r.number) e))
one (Err f) (Err g) e = ap (λ (r : Reply). r.number) e

pub gives_single : (Q : Reply → Type 0) → Single Q → Single (Gives Q)
gives_single Q s m n a b = a.is ∙ one a.answer b.answer (s (reply a.answer) (reply b.answer) a.meets b.meets) ∙ sym b.is

pub writes_single : (x m n : ℕ) (a b : List ℕ) → Writes x m a → Writes x n b → (m ≡ n) × (a ≡ b)
writes_single x m n a b p q =
    let e : p.answer ≡ q.answer = unpack_single x p.answer q.answer p.meets q.meets in
    (p.number ∙ ap (λ (u : Unpacking). u.number) e ∙ sym q.number, p.slots ∙ ap values e ∙ sym q.slots)

pub code_large : (x : ℕ) → IsCode x → 2 ^ 62 ≤ x
code_large x c = omega (arith, c.known)

-- making a mesh anew gives no value
value_same : {o p : Outcome} → o ≡ p → o.reply.value ≡ p.reply.value
value_same e = ap (λ (q : Outcome). q.reply.value) e

pub fresh_value : (S Q : ℕ) (xs : List ℕ) (o : Outcome) → Freshened S Q xs o → o.reply.value ≡ 0
fresh_value S Q xs o (inl h) = value_same h.1
fresh_value S Q xs o (inr (short, inl h)) = value_same h.1
fresh_value S Q xs o (inr (short, inr (known, inl h))) = value_same h.1
fresh_value S Q xs o (inr (short, inr (known, inr (room, e)))) = value_same e
