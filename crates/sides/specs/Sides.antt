-- What is asked about the sides of leaves; L are the leaves of a mesh.
--
--   AllIn L A            == all of A are among the leaves
--   smaller_of n s       == the children of the cell n, which lies across a side s, on its side back
--   Stands L small a s b == side s of the leaf a meets the leaf b, a larger one, or, where small says so, a smaller one
--   InTheWay L small A b == b is such a leaf for some side of one of the leaves A
--   candidate_of small m == of what a side meets the least such leaf, if there is one
--   Blocker P r          == r is the least number with P, or nothing where there is none
use Rattle.std.specs.Prelude.{Bool, true, false, List, ℕ, ◌<◌, length, slice_index, Option, MatchOption}
use Rattle.codes.specs.Codes.{depth}
use Rattle.codes.specs.Places.{child_code}
use Rattle.steps.specs.Edges.{back_no, first, second}
use Rattle.soundness.specs.Leaves.{Leaf}
use Rattle.soundness.specs.Soundness.{Meets}
use Rattle.soundness.specs.Sides.{larger_leaf, smaller_leaf, Some, LeastOf}
use Rattle.soundness.specs.declared.Met.{Met}
use Rattle.soundness.specs.declared.Met.TheVariants.{Smaller}

abbrev pub AllIn : List ℕ → List ℕ → Type 0
AllIn L A = (i : ℕ) → i < length A → Leaf L (slice_index A i)

abbrev pub smaller_of : ℕ → ℕ → Met
smaller_of n s = Smaller (child_code n (first (back_no s))) (child_code n (second (back_no s)))

abbrev pub Deeper : Bool → ℕ → ℕ → Type 0
Deeper false a b = depth b < depth a
Deeper true a b = depth a < depth b

pub record Stands (L : List ℕ) (small : Bool) (a s b : ℕ) : Type 0 where
  pub leaf : Leaf L b
  pub meets : Meets a s b
  pub level : Deeper small a b

pub record InTheWay (L : List ℕ) (small : Bool) (A : List ℕ) (b : ℕ) : Type 0 where
  pub at : ℕ
  pub within : at < length A
  pub side : ℕ
  pub low : side < 3
  pub stands : Stands L small (slice_index A at) side b

abbrev pub candidate_of : Bool → Met → Option ℕ
candidate_of false m = larger_leaf m
candidate_of true m = smaller_leaf m

abbrev pub Blocker : (ℕ → Type 0) → Option ℕ → Type 0
Blocker P r = MatchOption r (Some P → ⊥) (LeastOf P)
