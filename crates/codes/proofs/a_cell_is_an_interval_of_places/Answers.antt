-- The laws of proofs/Finest.
-- Assumes nothing.
use Rattle.codes.proofs.Finest.{place_within, within_place}
use Rattle.codes.proofs.a_cell_is_an_interval_of_places.Goals as goal

pub returns : goal.returns
returns c = record {
  within = (λ x g c. place_within x g c);
  nowhere_else = within_place;
}
