-- The laws of proofs/OnCodes and proofs/Answers.
-- Assumes nothing.
use Rattle.soundness.proofs.Answers.{met_single}
use Rattle.soundness.proofs.OnCodes.{each_side}
use Rattle.soundness.proofs.each_side_meets_one_leaf_or_two_smaller.Goals as goal

pub returns : goal.returns
returns c = record {
  one_or_two = each_side;
  one_answer = met_single;
}
