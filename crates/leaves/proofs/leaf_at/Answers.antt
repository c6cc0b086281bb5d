-- The search ends where the code would stand: it stands there, or nowhere.
use mathlib.Core.Path.{◌∙◌, sym}
use native.Mathlib.Omega.{arith}
use Rattle.leaves.proofs.Search.{below_leaf}
use Rattle.leaves.proofs.leaf_at.Goals as goal

pub returns-in_err-get : goal.returns-in_err-get
returns-in_err-get c =
    rw c.from_residual.ensures (λ m. omega (arith, (below_leaf _ _ _ c.requires c.below-at.ensures m).0, c.in_err-get.ensures.lookup))

pub returns-else-branch-code : goal.returns-else-branch-code
returns-else-branch-code c =
    λ m. c.if-branch-code.false (c.in_ok-get.ensures.lookup.4 (omega arith) 0 ∙ (below_leaf _ _ _ c.requires c.below-at.ensures m).1)
