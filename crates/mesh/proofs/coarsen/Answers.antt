-- The four children stand among the leaves of a sound mesh: the refusals are asked in their order, then they are joined.
use mathlib.Core.Logic.{inl, inr}
use mathlib.Core.Path.{refl, ◌∙◌, ap}
use Prim.Native.Nat.{ℕ, ◌<◌}
use native.Mathlib.Omega.{arith}
use Rattle.refusals.specs.Answers.{done}
use Rattle.codes.specs.Codes.{depth}
use Rattle.codes.specs.Places.{child_code}
use Rattle.soundness.specs.Leaves.{Leaf}
use Rattle.leaves.specs.Leaves.{Covered}
use Rattle.examine.specs.Examined.{whole_of}
use Rattle.mesh.specs.Answers.{Outcome, outcome}
use Rattle.mesh.specs.Calls.{kept, coarsen_leaves_end, coarsen_end, Coarsened}
use Rattle.mesh.proofs.Held.{held_covered}
use Rattle.mesh.proofs.Passed.{goes_on, found_four}
use Rattle.mesh.proofs.coarsen.Goals as goal
use Rattle.mesh.proofs.coarsen.Goals.{In_ok-at}

four : (c : In_ok-at) → (q : ℕ) → q < 4 → Leaf c.in_ok-mesh.mesh.leaves (child_code c.in_ok-cell.cell q)
four c =
    let f = rw (c.codes.ensures.codes, c.in_ok-at.ensures.ok_part) at c.four_at.ensures in
    found_four _ _ _ f.0 f.1

pub four_at-requires : goal.four_at-requires
four_at-requires c =
    let M = c.codes.ensures.mesh in
    let covered : Covered c.codes.result.now = rw c.codes.ensures.codes (held_covered _ _ M) in
    record { covered = covered; depth = omega (arith, c.depth.ensures.depth) }

-- what is said once the four are found
said : (c : In_ok-at) {o : Outcome} → coarsen_leaves_end c.args.slots.now c.args.cell o → Coarsened (whole_of c.args.slots.now) c.args.slots.now c.args.cell o
said c r =
    let xs = c.args.slots.now in
    let m = c.in_ok-mesh.ensures in
    let all = rw (m.3, c.in_ok-cell.ensures.0) at (four c) in
    let d = c.depth.ensures.depth ∙ ap depth c.in_ok-cell.ensures.0 in
    goes_on (kept xs) (whole_of xs) xs c.args.cell (coarsen_end xs c.args.cell) m.0 m.1 c.in_ok-cell.ensures.1 (inr (omega (arith, d), inr (all, r)))

pub coarsen_blocker-requires : goal.coarsen_blocker-requires
coarsen_blocker-requires c = four (goal.at.coarsen_blocker-requires c).In_ok-at

pub returns-in-Some : goal.returns-in-Some
returns-in-Some c =
    let least = rw (c.in_ok-mesh.ensures.3, c.in_ok-cell.ensures.0) at c.in-Some.ensures in
    said (goal.at.returns-in-Some c).In_ok-at (inl (record { leaf = c.in-Some.blocker; least = least; is = refl }))

pub returns : goal.returns
returns c =
    let none = rw (c.in_ok-mesh.ensures.3, c.in_ok-cell.ensures.0) at c.in_default.ensures in
    let join = rw (c.bits.ensures.bits, c.in_ok-cell.ensures.0) at c.join_leaves.ensures in
    said (goal.at.returns c).In_ok-at (inr (none, ap (outcome (done 0)) join))
