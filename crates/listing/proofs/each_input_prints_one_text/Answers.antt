-- The law of singleness.
use Rattle.listing.proofs.Single.{prints_one}
use Rattle.listing.proofs.each_input_prints_one_text.Goals as goal

pub returns : goal.returns
returns c = prints_one
