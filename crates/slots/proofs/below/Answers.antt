-- Each turn settles half of what is left from `at` on, before which all are less than the key; the last slot is compared by itself.
use Rattle.std.proofs.Common.{ℕ, ◌/◌, refl, arith}
use Rattle.slots.proofs.Search.{halved}
use Rattle.slots.proofs.below.Goals as goal

pub loop-rest-preserved : goal.loop-rest-preserved
loop-rest-preserved c =
    let l = c.loop-rest in
    let half : ℕ = l.rest / 2 in
    (omega arith, halved c.args.leaves.now c.args.key c.requires l.at l.rest half l.invariant.1 (omega arith) refl c.less.result c.less.ensures)
