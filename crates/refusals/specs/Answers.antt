-- What an answer says: its number and value, or yes or no.
--
--   Reply        == number and value
--   told n v     == the reply of the number n and the value v
--   done v       == a call that is done: number 0
--   refused k    == a refusal: its number, and 0 in the other part
--   number e     == the number of a cause of the enum Refusal
--   value e      == its value: the least blocking leaf, else 0
--   refusal e    == the reply that refuses by that cause
--   reply r      == the number and value of a call that gives a number or refuses
--   unit_reply r == the number and value of a call that gives nothing or refuses
--   Tells b P    == the answer b is yes exactly when P holds
use Rattle.std.specs.Prelude.{Bool, true, false, ◌≡◌, ℕ, Result, Ok, Err}
use Rattle.refusals.specs.Refusals.{SOLID, FACE, DEPTH, TAIL, DIRECTION, DIGIT, DEEP, ROOT, POINT, BUFFER, MESH, NOT_LEAF, NOT_FOUR, BLOCKED, ROOM}
use Rattle.refusals.specs.declared.Refusal.{Refusal}
use Rattle.refusals.specs.declared.Refusal.TheVariants.{Solid, Face, Depth, Tail, Direction, Digit, Deep, Root, Point, Buffer, Mesh, NotLeaf, NotFour, Blocked, Room}

pub record Reply : Type 0 where
  pub number : ℕ
  pub value : ℕ

abbrev pub told : ℕ → ℕ → Reply
told n v = record { number = n; value = v }

-- "A call that is done has number 0."
abbrev pub done : ℕ → Reply
done v = record { number = 0; value = v }

-- "A refusal returns its number and 0 in every other part of the answer."
abbrev pub refused : ℕ → Reply
refused k = record { number = k; value = 0 }

abbrev pub number : Refusal → ℕ
number Solid = SOLID
number Face = FACE
number Depth = DEPTH
number Tail = TAIL
number Direction = DIRECTION
number Digit = DIGIT
number Deep = DEEP
number Root = ROOT
number Point = POINT
number Buffer = BUFFER
number Mesh = MESH
number NotLeaf = NOT_LEAF
number NotFour = NOT_FOUR
number (Blocked b) = BLOCKED
number Room = ROOM

-- ".. except 14": the value is the least blocking leaf
abbrev pub value : Refusal → ℕ
value Solid = 0
value Face = 0
value Depth = 0
value Tail = 0
value Direction = 0
value Digit = 0
value Deep = 0
value Root = 0
value Point = 0
value Buffer = 0
value Mesh = 0
value NotLeaf = 0
value NotFour = 0
value (Blocked b) = b
value Room = 0

abbrev pub refusal : Refusal → Reply
refusal e = told (number e) (value e)

abbrev pub reply : Result ℕ Refusal → Reply
reply (Ok v) = done v
reply (Err e) = refusal e

abbrev pub unit_reply : Result Unit Refusal → Reply
unit_reply (Ok u) = done 0
unit_reply (Err e) = refusal e

pub record Tells (b : Bool) (P : Type 0) : Type 0 where
  pub yes : b ≡ true → P
  pub no : b ≡ false → P → ⊥
