-- All faces of the first slot's solid are asked for.
use mathlib.Core.Path.{◌∙◌}
use native.Mathlib.Omega.{arith}
use Rattle.soundness.proofs.Fresh.{all_faces_set}
use Rattle.examine.proofs.examine.Goals as goal

pub examine_faces-requires : goal.examine_faces-requires
examine_faces-requires c = record { short = omega arith; solid = c.in-Ok.ensures ∙ c.of.ensures.solid; faces = rw c.all.ensures (all_faces_set _) }
