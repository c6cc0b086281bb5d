-- The law of proofs/Series, and what a sound mesh says of sides.
-- Assumes nothing.
use Rattle.soundness.specs.Leaves.{leaves}
use Rattle.soundness.proofs.OnCodes.{each_side}
use Rattle.mesh.proofs.Series.{reach_sound}
use Rattle.mesh.proofs.any_series_of_calls_leaves_a_sound_mesh.Goals as goal

pub returns : goal.returns
returns c = record {
  sound = λ S Q xs r. reach_sound r;
  one_or_two = λ S xs r. each_side S (leaves xs) (reach_sound r).mesh;
}
