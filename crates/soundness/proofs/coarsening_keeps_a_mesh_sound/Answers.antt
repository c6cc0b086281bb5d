-- The laws of proofs/OnCodes and proofs/Coarsen.
-- Assumes nothing.
use Rattle.soundness.proofs.Coarsen.{coarsen_blocked}
use Rattle.soundness.proofs.OnCodes.{coarsening_keeps}
use Rattle.soundness.proofs.coarsening_keeps_a_mesh_sound.Goals as goal

pub returns : goal.returns
returns c = record {
  sound = coarsening_keeps;
  blocked = coarsen_blocked;
}
