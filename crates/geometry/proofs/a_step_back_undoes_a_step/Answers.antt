-- The theorem of proofs/Undo.
-- Assumes nothing.
use Rattle.geometry.proofs.Undo.{undo}
use Rattle.geometry.proofs.a_step_back_undoes_a_step.Goals as goal

pub returns : goal.returns
returns c = undo
