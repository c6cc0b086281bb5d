-- Every leaf before `at` has its sides fine; a leaf that has not breaks the rule.
use Rattle.std.proofs.Common.{ℕ, ◌<◌, get_or}
use Rattle.balance.specs.Tiled.{SidesFine}
use Rattle.balance.proofs.balanced.Given as goal

abbrev pub invariant-loop-at : goal.invariant-loop-at
invariant-loop-at l = (k : ℕ) → k < l.at → SidesFine l.tiles.faces l.tiles.leaves (get_or l.leaf-items k 0)
