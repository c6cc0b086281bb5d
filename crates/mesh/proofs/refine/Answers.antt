-- The leaf stands among the leaves of a sound mesh: the refusals are asked in their order, then it is split.
use mathlib.Core.Logic.{inl, inr}
use mathlib.Core.Path.{◌≡◌, refl, ◌∙◌, ap}
use native.Mathlib.Omega.{arith}
use lib.ListN.{length}
use Rattle.refusals.specs.Answers.{done}
use Rattle.codes.specs.Codes.{depth}
use Rattle.soundness.specs.Leaves.{Leaf}
use Rattle.examine.specs.Examined.{whole_of}
use Rattle.mesh.specs.Answers.{Outcome, outcome}
use Rattle.mesh.specs.Calls.{kept, refine_leaf_end, refine_end, Refined}
use Rattle.mesh.proofs.Passed.{goes_on, found_leaf}
use Rattle.mesh.proofs.refine.Goals as goal
use Rattle.mesh.proofs.refine.Goals.{After-depth}

stands : (c : After-depth) → Leaf c.in_ok-mesh.mesh.leaves c.in_ok-leaf.leaf
stands c =
    let f = rw (c.codes.ensures.codes, c.bits.ensures.bits, c.in_ok-at.ensures.ok_part) at c.leaf_at.ensures in
    found_leaf _ _ _ f.0 f.1

pub leaf_at-requires : goal.leaf_at-requires
leaf_at-requires c = rw c.codes.ensures.codes c.codes.ensures.mesh.mesh.covers.ascend

-- what is said once the leaf is found
said : (c : After-depth) {o : Outcome} → refine_leaf_end c.args.slots.now c.args.leaf o → Refined (whole_of c.args.slots.now) c.args.slots.now c.args.leaf o
said c r =
    let xs = c.args.slots.now in
    let m = c.in_ok-mesh.ensures in
    let leaf = rw (m.3, c.in_ok-leaf.ensures.0) at (stands c) in
    goes_on (kept xs) (whole_of xs) xs c.args.leaf (refine_end xs c.args.leaf) m.0 m.1 c.in_ok-leaf.ensures.1 (inr (leaf, r))

deep : (c : After-depth) → c.depth.result ≡ depth c.args.leaf
deep c = c.depth.ensures.depth ∙ ap depth c.in_ok-leaf.ensures.0

pub returns-then-depth-gt25 : goal.returns-then-depth-gt25
returns-then-depth-gt25 c =
    let a = (goal.at.returns-then-depth-gt25 c).After-depth in
    said a (inl ((λ d. omega (arith, deep a)), refl))

pub refine_blocker-requires : goal.refine_blocker-requires
refine_blocker-requires c = stands (goal.at.refine_blocker-requires c).After-depth

pub returns-in-Some : goal.returns-in-Some
returns-in-Some c =
    let a = (goal.at.returns-in-Some c).After-depth in
    let least = rw (c.in_ok-mesh.ensures.3, c.in_ok-leaf.ensures.0) at c.in-Some.ensures in
    said a (inr (omega (arith, deep a), inl (record { leaf = c.in-Some.blocker; least = least; is = refl })))

pub returns-then-slots-count-lt3 : goal.returns-then-slots-count-lt3
returns-then-slots-count-lt3 c =
    let a = (goal.at.returns-then-slots-count-lt3 c).After-depth in
    let e = c.in_ok-mesh.ensures.3 in
    let none = rw (e, c.in_ok-leaf.ensures.0) at c.in_default.ensures in
    said a (inr (omega (arith, deep a), inr (none, inl ((λ l. omega (arith, c.len-count.ensures.len, ap length e)), refl))))

pub returns : goal.returns
returns c =
    let a = (goal.at.returns c).After-depth in
    let e = c.in_ok-mesh.ensures.3 in
    let none = rw (e, c.in_ok-leaf.ensures.0) at c.in_default.ensures in
    let split = rw c.in_ok-leaf.ensures.0 at c.split_leaf.ensures in
    said a (inr (omega (arith, deep a), inr (none, inr (omega (arith, c.len-count.ensures.len, ap length e), ap (outcome (done 0)) split))))
