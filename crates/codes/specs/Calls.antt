-- What the calls on codes answer, for any numbers.
--
--   Checked x n            == n is the number for the code x: its first fault, or 0
--   CodeTried x r          == r is the code x, or refuses by its first fault
--   Packed s f p d r       == r is the reply for packing a solid, a face, a path and a depth
--   Unpacking              == what unpacking answers: a number and the four fields
--   unpacked, not_unpacked == done with these fields; a refusal: its number and four zeros
--   Unpacked x u           == u is the reply for unpacking the code x
--   ParentOf x r           == r is the reply for the parent of x
--   ChildOf x q r          == r is the reply for the child of x of digit q
--   fields r               == the number and the four fields of a call that gives fields or refuses
--   SomeChild y x          == x is the child of y of some digit
--
use Rattle.std.specs.Prelude.{◌≡◌, ℕ, ◌<◌, ◌≤◌, Result, Ok, Err, MatchResult}
use Rattle.refusals.specs.Refusals.{DIGIT, DEEP, ROOT, need}
use Rattle.refusals.specs.Answers.{Reply, done, refused, refusal, number}
use Rattle.refusals.specs.declared.Refusal.{Refusal}
use Rattle.geometry.specs.Paths.{digit_of}
use Rattle.geometry.specs.Cells.{parent, child}
use Rattle.codes.specs.Codes.{solid, face, path, depth, joined, IsCode, cell_of, code_of, faults, code_faults}
use Rattle.codes.specs.declared.Fields.{Fields}

abbrev pub Checked : ℕ → ℕ → Type 0
Checked x = code_faults (λ k. k) x (λ n. n ≡ 0)

abbrev pub CodeTried : ℕ → Result ℕ Refusal → Type 0
CodeTried x r = MatchResult r (λ c. (c ≡ x) × IsCode x) (λ e. code_faults refused x (λ _. ⊥) (refusal e))

-- "Packing from separate numbers (solid, face, a path of 52 bits with its first digit on top, depth): 1, 2, 3, 4."
abbrev pub Packed : ℕ → ℕ → ℕ → ℕ → Reply → Type 0
Packed s f p d = faults refused s f p d (λ r. r ≡ done (joined s f p d))

pub record Unpacking : Type 0 where
  pub number : ℕ
  pub solid : ℕ
  pub face : ℕ
  pub path : ℕ
  pub depth : ℕ

abbrev pub unpacked : ℕ → ℕ → ℕ → ℕ → Unpacking
unpacked s f p d = record { number = 0; solid = s; face = f; path = p; depth = d }

abbrev pub not_unpacked : ℕ → Unpacking
not_unpacked k = record { number = k; solid = 0; face = 0; path = 0; depth = 0 }

abbrev pub fields : Result Fields Refusal → Unpacking
fields (Ok f) = unpacked f.solid f.face f.path f.depth
fields (Err e) = not_unpacked (number e)

abbrev pub Unpacked : ℕ → Unpacking → Type 0
Unpacked x = code_faults not_unpacked x (λ u. u ≡ unpacked (solid x) (face x) (path x) (depth x))

-- the end of each sequence has a name of its own, for the laws to take
abbrev pub parent_end : ℕ → Reply → Type 0
parent_end x = need (0 < depth x) (refused ROOT) (λ r. r ≡ done (code_of (parent (cell_of x))))

abbrev pub ParentOf : ℕ → Reply → Type 0
ParentOf x = code_faults refused x (parent_end x)

abbrev pub child_end : ℕ → ℕ → Reply → Type 0
child_end x q =
    need (q ≤ 3) (refused DIGIT)
    (need (depth x < 26) (refused DEEP)
    (λ r. r ≡ done (code_of (child (cell_of x) (digit_of q)))))

abbrev pub ChildOf : ℕ → ℕ → Reply → Type 0
ChildOf x q = code_faults refused x (child_end x q)

pub record SomeChild (y x : ℕ) : Type 0 where
  pub digit : ℕ
  pub is : ChildOf y digit (done x)
