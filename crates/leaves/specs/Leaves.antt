-- What is asked of the leaves of a mesh; `L` are the leaves, `xs` the slots.
--
--   Covered L       == L are the leaves of some mesh, sound but for its levels
--   Filled xs n     == n leaves stand in the slots xs, ascending, and then only zeros
--   LeafAt L code r == r tells where the code stands among the leaves, or that it is none of them
--   FourAt L cell r == r tells where the children of the cell stand side by side, or that not all of them are leaves
--   RunAt L cell r  == the leaves in the range r are those that are the cell or lie inside it; before stand those below the cell
use Rattle.std.specs.Prelude.{List, ◌≡◌, ℕ, ◌+◌, ◌<◌, ◌≤◌, length, slice_index, slice_range, Option, None, Some}
use Rattle.leaves.specs.declared.Run.{Run}
use Rattle.codes.specs.Places.{child_code}
use Rattle.soundness.specs.Leaves.{Leaf, Ascends, leaves, pad}
use Rattle.soundness.specs.Soundness.{Covers}
use Rattle.soundness.specs.Changes.{under}
use Rattle.soundness.specs.Inner.{Below}

pub record Covered (L : List ℕ) : Type 0 where
  pub solid : ℕ
  pub faces : ℕ
  pub covers : Covers solid faces L

-- "Leaves come first, then only zeros."
pub record Filled (xs : List ℕ) (n : ℕ) : Type 0 where
  pub form : xs ≡ pad (length xs) (leaves xs)
  pub count : length (leaves xs) ≡ n
  pub ascend : Ascends (leaves xs)

abbrev pub LeafAt : List ℕ → ℕ → Option ℕ → Type 0
LeafAt L code (Some i) = (i < length L) × (slice_index L i ≡ code)
LeafAt L code None = Leaf L code → ⊥

-- "if all four children are leaves"
abbrev pub FourAt : List ℕ → ℕ → Option ℕ → Type 0
FourAt L cell (Some i) = (i + 4 ≤ length L) × ((q : ℕ) → q < 4 → slice_index L (i + q) ≡ child_code cell q)
FourAt L cell None = ((q : ℕ) → q < 4 → Leaf L (child_code cell q)) → ⊥

-- "the leaves equal to or inside that cell"
pub record RunAt (L : List ℕ) (cell : ℕ) (r : Run) : Type 0 where
  pub order : r.start ≤ r.end
  pub upto : r.end ≤ length L
  pub first : Below L cell r.start
  pub part : slice_range L r.start r.end ≡ under cell L
