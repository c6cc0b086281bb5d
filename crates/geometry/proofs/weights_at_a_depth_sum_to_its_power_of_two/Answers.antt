-- The theorem of proofs/Corners.
-- Assumes nothing.
use Rattle.geometry.proofs.Corners.{weights_sum}
use Rattle.geometry.proofs.weights_at_a_depth_sum_to_its_power_of_two.Goals as goal

pub returns : goal.returns
returns c = weights_sum
