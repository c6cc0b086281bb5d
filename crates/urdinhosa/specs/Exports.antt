-- How answers cross to C.
--
--   one_number a                       == an answer as one number: the code, or else the refusal's
--   Gives Q n                          == n is that one number for an answer whose reply meets Q
--   Writes x n out                     == n is the number, and out the four values, of the reply for unpacking x
--   told_side n d b c, told_part n a m == the answers of across and run from their parts
use Rattle.std.specs.Prelude.{List, [], ◌∷◌, ◌≡◌, ℕ, ℤ, Result, Ok, Err}
use Rattle.refusals.specs.Answers.{Reply, number, reply}
use Rattle.refusals.specs.declared.Refusal.{Refusal}
use Rattle.codes.specs.Calls.{Unpacking, Unpacked}
use Rattle.mesh.specs.Answers.{Crossing, Part}

-- "It gets one number, the code or else the refusal's."
abbrev pub one_number : Result ℕ Refusal → ℕ
one_number (Ok c) = c
one_number (Err e) = number e

pub record Gives (Q : Reply → Type 0) (n : ℕ) : Type 0 where
  pub answer : Result ℕ Refusal
  pub meets : Q (reply answer)
  pub is : n ≡ one_number answer

abbrev pub values : Unpacking → List ℕ
values u = u.solid ∷ u.face ∷ u.path ∷ u.depth ∷ []

pub record Writes (x n : ℕ) (out : List ℕ) : Type 0 where
  pub answer : Unpacking
  pub meets : Unpacked x answer
  pub number : n ≡ answer.number
  pub slots : out ≡ values answer

-- the number is returned, the other parts are written
abbrev pub told_side : ℕ → ℤ → ℕ → ℕ → Crossing
told_side n d b c = record { number = n; level = d; first = b; second = c }

abbrev pub told_part : ℕ → ℕ → ℕ → Part
told_part n a m = record { number = n; start = a; count = m }
