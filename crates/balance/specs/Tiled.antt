-- What the level test asks of its leaves, and what it tells of one. `Q` are the faces, `L` the leaves.
--
--   TiledFor Q L c  == the leaves tile the faces of some solid, and c is a code of that solid
--   SidesFine Q L a == each side asked for at the leaf a is fine
use Rattle.std.specs.Prelude.{List, ℕ}
use Rattle.codes.specs.Places.{CodeOn, parent_code}
use Rattle.steps.specs.Stepped.{step_code}
use Rattle.soundness.specs.Inner.{Tiling, Fine, Asked}

pub record TiledFor (Q : ℕ) (L : List ℕ) (c : ℕ) : Type 0 where
  pub solid : ℕ
  pub tiling : Tiling solid Q L
  pub code : CodeOn solid c

abbrev pub SidesFine : ℕ → List ℕ → ℕ → Type 0
SidesFine Q L a = (s : ℕ) → Asked s a → Fine Q L (step_code s (parent_code a))
