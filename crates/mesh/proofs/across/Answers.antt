-- The leaf stands among the leaves of a sound mesh; `side_of` tells what its side meets.
use mathlib.Core.Logic.{inr}
use mathlib.Core.Path.{refl}
use Rattle.soundness.specs.Leaves.{Leaf}
use Rattle.examine.specs.Examined.{whole_of}
use Rattle.sides.proofs.Across.{side_low}
use Rattle.mesh.specs.Answers.{not_crossed}
use Rattle.mesh.specs.Calls.{across_end}
use Rattle.mesh.proofs.Passed.{goes_on, found_leaf}
use Rattle.mesh.proofs.across.Goals as goal
use Rattle.mesh.proofs.across.Goals.{In_ok-ok_or}

stands : (c : In_ok-ok_or) → Leaf c.in_ok-mesh.mesh.leaves c.in_ok-leaf.leaf
stands c =
    let f = rw (c.codes.ensures.codes, c.bits.ensures.bits, c.in_ok-ok_or.ensures.ok_part) at c.leaf_at.ensures in
    found_leaf _ _ _ f.0 f.1

pub leaf_at-requires : goal.leaf_at-requires
leaf_at-requires c = rw c.codes.ensures.codes c.codes.ensures.mesh.mesh.covers.ascend

pub side_of-requires : goal.side_of-requires
side_of-requires c = stands (goal.at.side_of-requires c).In_ok-ok_or

pub returns : goal.returns
returns c =
    let a = c.args in
    let xs = a.slots.now in
    let m = c.in_ok-mesh.ensures in
    let leaf = rw (m.3, c.in_ok-leaf.ensures.0) at (stands (goal.at.returns c).In_ok-ok_or) in
    let side = rw (m.3, c.in_ok-leaf.ensures.0, c.in_ok-side.ensures) at c.side_of.ensures in
    let low = rw c.in_ok-side.ensures at (side_low c.in_ok-side.side) in
    goes_on not_crossed (whole_of xs) xs a.leaf (across_end xs a.leaf a.direction) m.0 m.1 c.in_ok-leaf.ensures.1
    (inr (low, inr (leaf, record { met = c.side_of.result; side = side; is = refl })))
