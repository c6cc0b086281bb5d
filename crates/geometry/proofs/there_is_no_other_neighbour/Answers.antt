-- The theorem of proofs/Neighbours.
-- Assumes nothing.
use Rattle.geometry.proofs.Neighbours.{one_neighbour}
use Rattle.geometry.proofs.there_is_no_other_neighbour.Goals as goal

pub returns : goal.returns
returns c = one_neighbour
