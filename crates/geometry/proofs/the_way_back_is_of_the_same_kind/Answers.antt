-- The theorem of proofs/WayBack.
-- Assumes nothing.
use Rattle.geometry.proofs.WayBack.{way_back}
use Rattle.geometry.proofs.the_way_back_is_of_the_same_kind.Goals as goal

pub returns : goal.returns
returns c = way_back
