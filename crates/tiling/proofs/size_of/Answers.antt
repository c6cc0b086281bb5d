-- A cell has 4 ^ (26 - depth) places, a power of two that fits a word.
use Rattle.tiling.proofs.Places.{size_bits}
use Rattle.tiling.proofs.size_of.Goals as goal

pub returns : goal.returns
returns c = size_bits c.args.depth c.requires
