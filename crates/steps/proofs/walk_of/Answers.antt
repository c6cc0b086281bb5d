-- The walk leaves the same word and flag as the carries.
use Rattle.steps.proofs.Words.{walk_fits, over_walked}
use Rattle.steps.proofs.walk_of.Goals as goal

pub walk-walked-requires : goal.walk-walked-requires
walk-walked-requires c =
    let d = c.depth-depth.ensures in
    record { depth = rw d.depth d.most; path = walk_fits c.args.code c.args.side d.most c.depth-depth.result c.path.result d.depth c.path.ensures }

pub neighbour-requires : goal.neighbour-requires
neighbour-requires c =
    let d = c.depth-depth.ensures in
    over_walked c.args.code c.args.side d.most c.depth-depth.result c.path.result
    c.walk-walked.result.path c.walk-walked.result.crossed d.depth c.path.ensures c.walk-walked.ensures
