-- The carries leave the walk's word and flag.
use Rattle.steps.proofs.Words.{aligned, over_carried}
use Rattle.steps.proofs.step_of.Goals as goal

pub carry-requires : goal.carry-requires
carry-requires c =
    let d = c.depth.ensures in
    let k = c.word_of.ensures in
    record { depth = rw d.depth d.most; tail = rw d.depth (aligned c.args.code c.word_of.result d.most k.word k.code.tail.1) }

pub neighbour-requires : goal.neighbour-requires
neighbour-requires c =
    let d = c.depth.ensures in
    over_carried c.args.code c.args.side d.most c.depth.result c.word_of.result
    c.carry.result.path c.carry.result.crossed d.depth c.word_of.ensures.word c.carry.ensures
