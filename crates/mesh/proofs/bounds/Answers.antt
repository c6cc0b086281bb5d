-- A run with leaves is answered as it stands.
use Rattle.std.proofs.Common.{rules}
use Rattle.leaves.specs.Leaves.{Covered}
use Rattle.examine.specs.Examined.{whole_of}
use Rattle.mesh.specs.Answers.{no_bounds}
use Rattle.mesh.specs.Calls.{bounds_end}
use Rattle.mesh.proofs.Bounded.{some_run}
use Rattle.mesh.proofs.Held.{held_covered}
use Rattle.mesh.proofs.Passed.{goes_on}
use Rattle.mesh.proofs.bounds.Goals as goal

pub run_of-run-requires : goal.run_of-run-requires
run_of-run-requires c =
    let M = c.codes.ensures.mesh in
    let covered : Covered c.codes.result.now = rw c.codes.ensures.codes (held_covered _ _ M) in
    covered

pub returns : goal.returns
returns c =
    let a = c.args in
    let xs = a.slots.now in
    let m = c.in_ok-mesh.ensures in
    let r = rw (c.codes.ensures.codes, m.3, c.in_ok-cell.ensures.0) at c.run_of-run.ensures in
    goes_on no_bounds (whole_of xs) xs a.cell (bounds_end xs a.cell) m.0 m.1 c.in_ok-cell.ensures.1 (some_run _ _ m.1.form _ r (search rules))
