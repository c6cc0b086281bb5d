-- At every side the least of the sides before it is known, whatever the rule.
use Rattle.std.proofs.Common.{◌≡◌, ℕ, Bool, Option}
use Rattle.soundness.specs.declared.Met.{Met}
use Rattle.sides.specs.Sides.{candidate_of, Blocker}
use Rattle.sides.proofs.Rows.{Seen}
use Rattle.sides.proofs.least_blocker.Given as goal

abbrev pub invariant-loop-leaf : goal.invariant-loop-leaf
invariant-loop-leaf g l = (small : Bool) → ((m : Met) (r : Option ℕ) → g.F.Fn.post l.blocks (m, tt) r → r ≡ candidate_of small m) → Blocker (Seen l.mesh.leaves small l.leaves l.leaf-index 0) l.least

abbrev pub invariant-loop-side : goal.invariant-loop-side
invariant-loop-side g l = (small : Bool) → ((m : Met) (r : Option ℕ) → g.F.Fn.post l.blocks (m, tt) r → r ≡ candidate_of small m) → Blocker (Seen l.mesh.leaves small l.leaves l.leaf-index l.side-index) l.least
