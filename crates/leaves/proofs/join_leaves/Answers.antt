-- Four made one are the coarsened leaves, and zeros follow as before.
use Rattle.leaves.proofs.Moves.{join_is}
use Rattle.leaves.proofs.join_leaves.Goals as goal

pub returns : goal.returns
returns c =
    let a = c.args in
    rw c.join.ensures (join_is a.slots.now a.count a.at c.requires.filled a.cell c.requires.at c.requires.first)
