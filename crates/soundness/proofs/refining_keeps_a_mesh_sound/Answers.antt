-- The laws of proofs/OnCodes and proofs/Refine.
-- Assumes nothing.
use Rattle.soundness.proofs.Refine.{refine_blocked}
use Rattle.soundness.proofs.OnCodes.{refining_keeps}
use Rattle.soundness.proofs.refining_keeps_a_mesh_sound.Goals as goal

pub returns : goal.returns
returns c = record {
  sound = refining_keeps;
  blocked = refine_blocked;
}
