-- The law of proofs/Located.
use Rattle.points.proofs.Located.{located_least}
use Rattle.points.proofs.the_cell_located_is_the_least_that_holds_the_point.Goals as goal

pub returns : goal.returns
returns c = located_least
