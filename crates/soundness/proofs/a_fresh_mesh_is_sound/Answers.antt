-- The law of proofs/Fresh.
-- Assumes nothing.
use Rattle.soundness.proofs.Fresh.{fresh_sound}
use Rattle.soundness.proofs.a_fresh_mesh_is_sound.Goals as goal

pub returns : goal.returns
returns c = fresh_sound
