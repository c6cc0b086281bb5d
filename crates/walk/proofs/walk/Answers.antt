-- At a digit that stops the walk ends, with the rest as it was; at one that climbs the loop goes on with the rest; when no
-- digit is left the walk has passed the first one.
use Rattle.std.proofs.Common.{◌≡◌, ◌+◌, ◌-◌, ◌%◌, suc, arith}
use Rattle.geometry.specs.Paths.{digit_of}
use Rattle.walk.specs.Walks.{turn_of}
use Rattle.walk.specs.declared.Turn.TheVariants.{Stop, Climb}
use Rattle.walk.proofs.Loop.{start, stopped, climbed, ended}
use Rattle.walk.proofs.walk.Goals as goal

pub loop-init : goal.loop-init
loop-init c = start c.args.side c.args.path c.args.depth c.requires.depth c.requires.path

pub returns-in-Stop : goal.returns-in-Stop
returns-in-Stop c =
    let t : turn_of c.args.side (digit_of (c.loop.rest % 4)) ≡ Stop c.in-Stop.digit = cc in
    rw c.number.ensures (stopped (c.args.depth - c.loop.counter) c.loop.invariant (omega arith) t)

pub loop-preserved : goal.loop-preserved
loop-preserved c =
    let t : turn_of c.args.side (digit_of (c.loop.rest % 4)) ≡ Climb c.in-Climb.digit = cc in
    let n : c.args.depth - c.loop.counter ≡ suc (c.args.depth - (c.loop.counter + 1)) = omega arith in
    rw c.number-in-Climb.ensures (climbed (c.args.depth - (c.loop.counter + 1)) (rw n at c.loop.invariant) t)

pub returns : goal.returns
returns c = ended (c.args.depth - c.loop.counter) c.loop.invariant (omega arith)
