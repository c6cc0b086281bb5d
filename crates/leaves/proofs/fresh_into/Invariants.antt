-- Written so far and still to come are the faces of the set.
use mathlib.Core.List.{◌++◌}
use mathlib.Core.Path.{◌≡◌}
use Prim.Native.Nat.{◌≤◌}
use lib.ListN.{length, take}
use Rattle.solids.specs.Solids.{solid_no}
use Rattle.soundness.specs.Changes.{fresh_leaves}
use Rattle.leaves.proofs.Fresh.{left}
use Rattle.leaves.proofs.fresh_into.Given as goal

abbrev pub invariant-loop-face : goal.invariant-loop-face
invariant-loop-face l =
    (length l.slots ≡ length l.initial.slots) × (l.count ≤ length l.slots) ×
    (take l.count l.slots ++ left (solid_no l.solid) l.faces l.face-end l.face ≡ fresh_leaves (solid_no l.solid) l.faces)
