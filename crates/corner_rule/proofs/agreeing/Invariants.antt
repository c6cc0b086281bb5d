-- No more sides agree than there were turns.
use Prim.Native.Nat.{◌+◌, ◌*◌, ◌≤◌}
use Rattle.corner_rule.proofs.agreeing.Given as goal

abbrev pub invariant-loop-side : goal.invariant-loop-side
invariant-loop-side l = l.count ≤ 3 * l.cell-index + l.side-index

abbrev pub invariant-loop-cell : goal.invariant-loop-cell
invariant-loop-cell l = l.count ≤ 3 * l.cell-index
