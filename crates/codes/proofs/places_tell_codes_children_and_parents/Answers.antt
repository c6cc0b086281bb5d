-- The laws of proofs/Places.
-- Assumes nothing.
use Rattle.codes.proofs.Places.{code_on_solid, solid_is, on_solid_code, child_place, parent_place}
use Rattle.codes.proofs.places_tell_codes_children_and_parents.Goals as goal

pub returns : goal.returns
returns c = record {
  on_its_solid = code_on_solid;
  on_no_other = (λ S x o. (on_solid_code S x o, solid_is S x o));
  child = child_place;
  parent = parent_place;
}
