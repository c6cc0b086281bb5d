-- The numbers of the refusals, and what it means that the first cause in a sequence wins.
--
--   SOLID, .., ROOM   == the numbers of the table of refusals
--   need P out rest a == P is asked for: where it fails the answer a is `out`, where it holds the rest says what a is
--   Single Q          == at most one answer meets Q
--
-- `A` is the kind of answer: a number, or a record of a number and values.
use Rattle.std.specs.Prelude.{◌⊎◌, ◌≡◌, ℕ}

-- solid not 1, 2, 3
abbrev pub SOLID : ℕ
SOLID = 1

-- face not on the solid
abbrev pub FACE : ℕ
FACE = 2

-- depth above 26
abbrev pub DEPTH : ℕ
DEPTH = 3

-- a path bit set after the last digit, or, when packing from numbers, above the 52 path bits
abbrev pub TAIL : ℕ
TAIL = 4

-- not 0, 1, 2
abbrev pub DIRECTION : ℕ
DIRECTION = 5

-- child digit above 3
abbrev pub DIGIT : ℕ
DIGIT = 6

-- a child wanted of a depth-26 cell
abbrev pub DEEP : ℕ
DEEP = 7

-- parent of a depth-0 cell
abbrev pub ROOT : ℕ
ROOT = 8

-- weights do not sum to 2^26
abbrev pub POINT : ℕ
POINT = 9

-- slice longer than 8,192
abbrev pub BUFFER : ℕ
BUFFER = 10

-- slice not sound
abbrev pub MESH : ℕ
MESH = 11

-- well-formed code, no leaf of this mesh
abbrev pub NOT_LEAF : ℕ
NOT_LEAF = 12

-- some child of the cell is no leaf here
abbrev pub NOT_FOUR : ℕ
NOT_FOUR = 13

-- the value is the least blocking leaf
abbrev pub BLOCKED : ℕ
BLOCKED = 14

-- too few slots
abbrev pub ROOM : ℕ
ROOM = 15

-- "First cause in the sequence wins."
abbrev pub need : {A : Type 0} → Type 0 → A → (A → Type 0) → A → Type 0
need P out rest a = ((P → ⊥) × (a ≡ out)) ⊎ (P × rest a)

abbrev pub Single : {A : Type 0} → (A → Type 0) → Type 0
Single {A} Q = (a b : A) → Q a → Q b → a ≡ b
