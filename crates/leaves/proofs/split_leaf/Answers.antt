-- One made four are the refined leaves, and zeros follow as before.
use Rattle.leaves.proofs.Moves.{split_is}
use Rattle.leaves.proofs.split_leaf.Goals as goal

pub returns : goal.returns
returns c =
    let a = c.args in
    rw c.split.ensures (rw c.children.ensures.children (split_is a.slots.now a.count a.at c.requires.filled a.leaf c.requires.at c.requires.leaf c.requires.room))
