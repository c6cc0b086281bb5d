-- What the calls on a mesh leave: the reply, and every slot of the lent slice.
--
--   Outcome                    == a reply and the slots after the call
--   blocked b                  == BLOCKED, with the least blocking leaf
--   not_crossed k, no_bounds k == a refusal: its number, and 0 in every other part
--   Crossing                   == number, level difference and two codes
--   crossing m                 == those of what a side meets
--   across_reply r             == those of a call that tells what a side meets or refuses
--   Part                       == number, start and count of a part of the slice
--   bounds_reply r             == those of a call that gives a part or refuses
use Rattle.std.specs.Prelude.{List, ℕ, ◌-◌, ℤ, pos, negsuc, Result, Ok, Err}
use Rattle.leaves.specs.declared.Run.{Run}
use Rattle.refusals.specs.Refusals.{BLOCKED}
use Rattle.refusals.specs.Answers.{Reply, told, number}
use Rattle.refusals.specs.declared.Refusal.{Refusal}
use Rattle.soundness.specs.declared.Met.{Met}
use Rattle.soundness.specs.declared.Met.TheVariants.{Larger, Equal, Smaller, Open}

pub record Outcome : Type 0 where
  pub reply : Reply
  pub slots : List ℕ

abbrev pub outcome : Reply → List ℕ → Outcome
outcome r ys = record { reply = r; slots = ys }

-- "A refusal returns its number and 0 in every other part of the answer, except 14": the value is the least blocking leaf.
abbrev pub blocked : ℕ → Reply
blocked b = told BLOCKED b

pub record Crossing : Type 0 where
  pub number : ℕ
  pub level : ℤ
  pub first : ℕ
  pub second : ℕ

abbrev pub crossed : ℤ → ℕ → ℕ → Crossing
crossed d b c = record { number = 0; level = d; first = b; second = c }

-- "the neighbouring leaf's level minus its own, −1, 0 or 1, and the code, or both codes ascending when it is 1; else the
-- second code is 0"
abbrev pub crossing : Met → Crossing
crossing (Larger b) = crossed (negsuc 0) b 0
crossing (Equal b) = crossed (pos 0) b 0
crossing (Smaller b c) = crossed (pos 1) b c
crossing Open = crossed (pos 0) 0 0

abbrev pub not_crossed : ℕ → Crossing
not_crossed k = record { number = k; level = pos 0; first = 0; second = 0 }

abbrev pub across_reply : Result Met Refusal → Crossing
across_reply (Ok m) = crossing m
across_reply (Err e) = not_crossed (number e)

pub record Part : Type 0 where
  pub number : ℕ
  pub start : ℕ
  pub count : ℕ

abbrev pub part : ℕ → ℕ → Part
part a m = record { number = 0; start = a; count = m }

abbrev pub no_bounds : ℕ → Part
no_bounds k = record { number = k; start = 0; count = 0 }

abbrev pub bounds_reply : Result Run Refusal → Part
bounds_reply (Ok r) = part r.start (r.end - r.start)
bounds_reply (Err e) = no_bounds (number e)
