-- What the inner functions of a listing tell and leave.
--
--   letter o, code o             == the letter of an order's line, and its code
--   SolidIs bs r                 == r is the digit of the solid line that the bytes begin with, or None if they begin with none
--   OrderIs bs r                 == r is the order whose line the bytes begin with, or None if they begin with none
--   Printed P before after       == some text that meets P is put in, after what the page had
--   Grown xs                     == the slots are left by a series of calls on a whole mesh
--   Obeyed o xs ys before after  == the order o takes the slots xs to ys, and what it prints is put in after what the page had
use Rattle.std.specs.Prelude.{List, ◌++◌, ◌≡◌, ℕ, Option, Some, None}
use Rattle.soundness.specs.Regions.{all_faces}
use Rattle.mesh.specs.Answers.{Outcome}
use Rattle.mesh.specs.Series.{Reach}
use Rattle.listing.specs.Listing.{R, C, SolidFirst, OrderFirst, Done, answer}
use Rattle.listing.specs.declared.Order.{Order}
use Rattle.listing.specs.declared.Order.TheVariants.{Refine, Coarsen}

abbrev pub letter : Order → ℕ
letter (Refine c) = R
letter (Coarsen c) = C

abbrev pub code : Order → ℕ
code (Refine c) = c
code (Coarsen c) = c

abbrev pub SolidIs : List ℕ → Option ℕ → Type 0
SolidIs bytes (Some d) = SolidFirst bytes d
SolidIs bytes None = (d : ℕ) → SolidFirst bytes d → ⊥

abbrev pub OrderIs : List ℕ → Option Order → Type 0
OrderIs bytes (Some o) = OrderFirst bytes (letter o) (code o)
OrderIs bytes None = (l c : ℕ) → OrderFirst bytes l c → ⊥

pub record Printed (P : List ℕ → Type 0) (before after : List ℕ) : Type 0 where
  pub text : List ℕ
  pub is : P text
  pub put : after ≡ before ++ text

pub record Grown (xs : List ℕ) : Type 0 where
  pub solid : ℕ
  pub reach : Reach solid (all_faces solid) xs

pub record Obeyed (o : Order) (xs ys before after : List ℕ) : Type 0 where
  pub outcome : Outcome
  pub done : Done (letter o) xs (code o) outcome
  pub left : ys ≡ outcome.slots
  pub put : after ≡ before ++ answer outcome.reply.number
