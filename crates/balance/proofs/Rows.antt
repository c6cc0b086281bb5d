-- The leaves pass the level test where the sides of each are fine, and not otherwise.
use mathlib.Core.List.{List}
use mathlib.Core.Path.{◌≡◌, sym, subst}
use Prim.Native.Nat.{ℕ, ◌<◌}
use lib.ListN.{length, get_or}
use Rattle.codes.specs.Places.{parent_code}
use Rattle.steps.specs.Stepped.{step_code}
use Rattle.soundness.specs.Leaves.{Leaf}
use Rattle.soundness.specs.Inner.{Fine, Asked, Rows}
use Rattle.soundness.proofs.Leaves.{leaf_at, at_leaf}
use Rattle.balance.specs.Tiled.{SidesFine}

-- M is the leaves as they were read
module _ (Q : ℕ) (L M : List ℕ) (e : M ≡ L) where
  pub rows_all : ((i : ℕ) → i < length M → SidesFine Q L (get_or M i 0)) → Rows Q step_code L
  rows_all f s a m q =
      let r = at_leaf M a (subst (λ (l : List ℕ). Leaf l a) (sym e) m) in
      subst (λ (x : ℕ). Fine Q L (step_code s (parent_code x))) r.is (f r.at r.low s (subst (Asked s) (sym r.is) q))

  pub rows_at : Rows Q step_code L → (i : ℕ) → i < length M → SidesFine Q L (get_or M i 0)
  rows_at f i l s q = f s (get_or M i 0) (subst (λ (t : List ℕ). Leaf t (get_or M i 0)) e (leaf_at M i l)) q
