-- Each turn settles half of what is left from `at` on, before which all are less than the key; the last slot is compared by itself.
use Rattle.std.proofs.Common.{◌+◌, ◌<◌}
use Rattle.slots.proofs.Search.{Within}
use Rattle.slots.proofs.below.Given as goal

abbrev pub invariant-loop-rest : goal.invariant-loop-rest
invariant-loop-rest l = (0 < l.rest) × Within l.leaves l.key l.at (l.at + l.rest)

abbrev pub decreases-loop-rest : goal.decreases-loop-rest
decreases-loop-rest l = l.rest
