-- The theorem of proofs/Neighbours.
-- Assumes nothing.
use Rattle.geometry.proofs.Neighbours.{neighbour}
use Rattle.geometry.proofs.the_step_gives_a_neighbour.Goals as goal

pub returns : goal.returns
returns c = neighbour
