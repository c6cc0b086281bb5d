-- The laws of proofs/Single.
-- Assumes nothing.
use Rattle.refusals.proofs.Answers.{tells_single}
use Rattle.mesh.proofs.Single.{fresh_single, refine_single, coarsen_single, across_single, bounds_single, run_single, count_single}
use Rattle.mesh.proofs.each_call_on_a_mesh_has_one_answer.Goals as goal

pub returns : goal.returns
returns c = record {
  sound = (λ xs. tells_single);
  fresh = fresh_single;
  refine = refine_single;
  coarsen = coarsen_single;
  across = across_single;
  bounds = bounds_single;
  run = run_single;
  count = count_single;
}
