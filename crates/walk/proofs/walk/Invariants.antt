-- At a digit that stops the walk ends, with the rest as it was; at one that climbs the loop goes on with the rest; when no
-- digit is left the walk has passed the first one.
use Rattle.std.proofs.Common.{◌-◌}
use Rattle.walk.proofs.Loop.{Kept}
use Rattle.walk.proofs.walk.Given as goal

abbrev pub invariant-loop : goal.invariant-loop
invariant-loop l = Kept l.side l.path l.depth l.low l.place l.rest (l.depth - l.counter)
