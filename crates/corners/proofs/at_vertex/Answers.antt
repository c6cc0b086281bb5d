-- Twelve zeros with a 1 put in one place.
use Rattle.geometry.proofs.Weights.{unit_set}
use Rattle.corners.proofs.at_vertex.Goals as goal

pub returns : goal.returns
returns c = unit_set 12 c.args.vertex c.requires
