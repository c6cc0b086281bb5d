-- What the step over a side answers, for any code and direction.
--
--   step_faults   == refusals 1 to 4 for the code, then 5 for the direction
--   Arrives x s r == the reply r is the code of the neighbour of x over side s, by the corner rule
--   Stepped x s r == r is the reply for the step of x in direction s
--   step_code s x == the code that the step of the cell of x leads to
--
-- Both methods have the promise Stepped, which says nothing of digits, tables or seams.
use Rattle.std.specs.Prelude.{◌≡◌, ℕ, ◌<◌}
use Rattle.solids.specs.Triangles.{side_of}
use Rattle.refusals.specs.Refusals.{DIRECTION, need}
use Rattle.refusals.specs.Answers.{Reply, refused}
use Rattle.geometry.specs.Neighbours.{Neighbour}
use Rattle.geometry.specs.Steps.{step}
use Rattle.codes.specs.Codes.{IsCode, cell_of, code_of, code_faults}

pub record Arrives (x s : ℕ) (r : Reply) : Type 0 where
  pub number : r.number ≡ 0
  pub code : IsCode r.value
  pub across : Neighbour (side_of s) (cell_of x) (cell_of r.value)

-- "Pure calls: 1, 2, 3, 4, then 5, 6, 7, 8 where they apply."
abbrev pub step_faults : {A : Type 0} → (ℕ → A) → ℕ → ℕ → (A → Type 0) → A → Type 0
step_faults out x s rest = code_faults out x (need (s < 3) (out DIRECTION) rest)

abbrev pub Stepped : ℕ → ℕ → Reply → Type 0
Stepped x s = step_faults refused x s (Arrives x s)

abbrev pub step_code : ℕ → ℕ → ℕ
step_code s x = code_of (step (side_of s) (cell_of x))
