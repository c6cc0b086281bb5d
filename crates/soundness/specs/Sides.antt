-- What a side of a leaf meets, and what stands in the way of a change.
--
--   MetIs L a s m       == side s of the leaf a meets m: one larger or equal leaf, two smaller ones, or nothing
--   larger_leaf m       == the larger leaf of what is met, if it is one
--   smaller_leaf m      == the lesser of the two smaller leaves, if it is two
--   Only, Two           == the one leaf that a side meets; the two smaller ones
--   OneOrTwo L a s      == it meets one leaf, equal or larger, or exactly two smaller
--   BlocksRefine L a b  == b is a larger leaf that a side of a meets
--   BlocksCoarsen L c b == b is a smaller leaf that a side of one of the four children of c meets
--   Some P              == there is something with P
--   LeastOf P v         == v is the least number with P
use Rattle.std.specs.Prelude.{Option, None, List, ◌⊎◌, ◌≡◌, ℕ, ◌+◌, ◌<◌, ◌≤◌}
use Rattle.std.specs.Prelude as std
use Rattle.codes.specs.Codes.{depth}
use Rattle.codes.specs.Places.{child_code}
use Rattle.soundness.specs.Leaves.{Leaf}
use Rattle.soundness.specs.Soundness.{Meets}
use Rattle.soundness.specs.declared.Met.{Met}
use Rattle.soundness.specs.declared.Met.TheVariants.{Larger, Equal, Smaller, Open}

-- b is the only leaf that side s of a meets
pub record Only (L : List ℕ) (a s b : ℕ) : Type 0 where
  pub leaf : Leaf L b
  pub meets : Meets a s b
  pub no_other : (x : ℕ) → Leaf L x → Meets a s x → x ≡ b

-- b and c, ascending, are the only leaves that side s of a meets, and each is one level deeper
pub record Two (L : List ℕ) (a s b c : ℕ) : Type 0 where
  pub order : b < c
  pub leaf : Leaf L b
  pub leaf' : Leaf L c
  pub meets : Meets a s b
  pub meets' : Meets a s c
  pub no_other : (x : ℕ) → Leaf L x → Meets a s x → (x ≡ b) ⊎ (x ≡ c)
  pub deeper : depth b ≡ depth a + 1
  pub deeper' : depth c ≡ depth a + 1

-- "so each side meets one leaf, equal or larger, or exactly two smaller"; in a region a side may meet none
abbrev pub MetIs : List ℕ → ℕ → ℕ → Met → Type 0
MetIs L a s (Larger b) = Only L a s b × (depth b + 1 ≡ depth a)
MetIs L a s (Equal b) = Only L a s b × (depth b ≡ depth a)
MetIs L a s (Smaller b c) = Two L a s b c
MetIs L a s Open = (x : ℕ) → Leaf L x → Meets a s x → ⊥

abbrev pub larger_leaf : Met → Option ℕ
larger_leaf (Larger b) = std.Some b
larger_leaf (Equal b) = None
larger_leaf (Smaller b c) = None
larger_leaf Open = None

abbrev pub smaller_leaf : Met → Option ℕ
smaller_leaf (Larger b) = None
smaller_leaf (Equal b) = None
smaller_leaf (Smaller b c) = std.Some b
smaller_leaf Open = None

pub data OneOrTwo (L : List ℕ) (a s : ℕ) : Type 0 where
  one_larger : (b : ℕ) → MetIs L a s (Larger b) → OneOrTwo L a s
  one_equal : (b : ℕ) → MetIs L a s (Equal b) → OneOrTwo L a s
  two_smaller : (b c : ℕ) → MetIs L a s (Smaller b c) → OneOrTwo L a s

-- "Refine is BLOCKED when a side meets a larger leaf."
pub record BlocksRefine (L : List ℕ) (a b : ℕ) : Type 0 where
  pub leaf : Leaf L b
  pub side : ℕ
  pub low : side < 3
  pub meets : Meets a side b
  pub larger : depth b < depth a

-- "Coarsen is BLOCKED when a side of one of the four children meets two smaller leaves."
pub record BlocksCoarsen (L : List ℕ) (c b : ℕ) : Type 0 where
  pub leaf : Leaf L b
  pub digit : ℕ
  pub four : digit < 4
  pub side : ℕ
  pub low : side < 3
  pub meets : Meets (child_code c digit) side b
  pub smaller : depth c + 1 < depth b

pub record Some (P : ℕ → Type 0) : Type 0 where
  pub one : ℕ
  pub is : P one

pub record LeastOf (P : ℕ → Type 0) (v : ℕ) : Type 0 where
  pub is : P v
  pub least : (b : ℕ) → P b → v ≤ b
