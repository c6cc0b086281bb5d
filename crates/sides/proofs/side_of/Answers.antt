-- Where the cell across stands among the leaves says what the side meets; one search tells where it stands.
use mathlib.Core.Bool.{true}
use mathlib.Core.List.{List}
use mathlib.Core.Path.{◌≡◌, ◌∙◌, ap, sym, subst}
use Prim.Native.Nat.{ℕ, ◌<◌}
use native.Mathlib.Omega.{arith}
use lib.ListN.{length, get_or}
use borrow.Author.Tests.{eqb-true, eqb-false}
use Rattle.solids.specs.Triangles.{side_no}
use Rattle.codes.specs.Places.{place}
use Rattle.codes.proofs.Places.{parent_place}
use Rattle.soundness.specs.Leaves.{Leaf}
use Rattle.soundness.specs.Inner.{Below}
use Rattle.soundness.specs.Sides.{MetIs}
use Rattle.soundness.specs.declared.Met.TheVariants.{Larger}
use Rattle.soundness.proofs.Leaves.{leaf_at}
use Rattle.sides.proofs.Across.{SmallerAt, LargerAt, side_low, leaf_code, open_met, equal_found, smaller_found, larger_found}
use Rattle.sides.proofs.side_of.Goals as goal
use Rattle.sides.proofs.side_of.Goals.{in-Some+else-eq+else-place, in_default, In-Some, After-below, Joined-get, Then-place}

pub returns-then-not-has_place : goal.returns-then-not-has_place
returns-then-not-has_place c =
    let no = rw (c.faces.ensures.faces, c.place.ensures) at (c.has_place.ensures.no c.if-not-has_place.true) in
    open_met _ _ _ _ _ c.faces.ensures.mesh c.requires (side_low c.args.side) c.step_of-across.ensures no

-- the search among the leaves
below : (c : After-below) → Below c.args.mesh.now.leaves c.step_of-across.result c.below.result
below c = rw (c.codes-codes.ensures.codes, c.bits.ensures.bits) at c.below.ensures

-- the leaf at which it ends
next : (c : In-Some) → (c.below.result < length c.args.mesh.now.leaves) × (get_or c.args.mesh.now.leaves c.below.result 0 ≡ c.in-Some.field-0.now)
next c =
    let K = c.codes-codes.ensures.codes in
    (omega (arith, ap length K, c.in-Some.ensures.lookup), ap (λ (L : List ℕ). get_or L c.below.result 0) (sym K) ∙ sym (c.in-Some.ensures.lookup.4 (omega arith) 0))

pub new-next-requires : goal.new-next-requires
new-next-requires c =
    let n = next (goal.at.new-next-requires c).In-Some in
    leaf_code _ _ _ c.faces.ensures.mesh (subst (Leaf c.args.mesh.now.leaves) n.1 (leaf_at _ _ n.0))

pub returns-then-eq : goal.returns-then-eq
returns-then-eq c =
    let n = next (goal.at.returns-then-eq c).In-Some in
    let i = n.1 ∙ sym c.new-next.ensures ∙ eqb-true _ _ (sym c.eq.ensures ∙ c.if-eq.true) in
    rw c.bits-then-eq.ensures.bits
    (equal_found _ _ _ _ _ c.faces.ensures.mesh c.requires (side_low c.args.side) c.step_of-across.ensures _ (below (goal.at.returns-then-eq c).After-below) n.0 i)

smaller_at : (c : Then-place) → SmallerAt c.args.mesh.now.leaves c.args.leaf (side_no c.args.side) c.step_of-across.result
smaller_at c =
    let n = next (goal.at.smaller-requires c).In-Some in
    let ne = eqb-false _ _ (sym c.eq.ensures ∙ c.if-eq.false) in
    let i = n.1 ∙ sym c.new-next.ensures in
    let p = ap place i ∙ sym c.place-in-Some.ensures ∙ c.if-place.true ∙ c.place-in-Some-2.ensures in
    smaller_found _ _ _ _ _ c.faces.ensures.mesh c.requires (side_low c.args.side) c.step_of-across.ensures _ (below (goal.at.smaller-requires c).After-below) n.0 (λ e. ne (sym i ∙ e)) p

pub smaller-requires : goal.smaller-requires
smaller-requires c = record { code = c.bits.ensures.code; depth = (smaller_at c).0 }

pub returns-then-place : goal.returns-then-place
returns-then-place c = rw c.smaller.ensures (smaller_at (goal.at.returns-then-place c).Then-place).1

larger_at : (c : Joined-get) → c.has_place.result ≡ true → LargerAt c.args.mesh.now.leaves c.args.leaf (side_no c.args.side) c.step_of-across.result
larger_at c t =
    let on = rw (c.faces.ensures.faces, c.place.ensures) at (c.has_place.ensures.yes t) in
    larger_found _ _ _ _ _ c.faces.ensures.mesh c.requires (side_low c.args.side) c.step_of-across.ensures _ (below (goal.at.parent-requires c).After-below) on
    (elim c.match-get.branch [
      | in-Some+else-eq+else-place w ↦ λ k e.
          let K = c.codes-codes.ensures.codes in
          let n = ap (λ (L : List ℕ). get_or L c.below.result 0) (sym K) ∙ sym (w.in-Some.ensures.lookup.4 (omega arith) 0) ∙ sym w.new-next.ensures in
          w.if-place.false (w.place-in-Some.ensures ∙ ap place (sym n) ∙ e ∙ sym w.place-in-Some-2.ensures)
      | in_default w ↦ λ k e. omega (arith, ap length c.codes-codes.ensures.codes, w.in_default.ensures.lookup)
    ])

pub parent-requires : goal.parent-requires
parent-requires c = (larger_at c c.if-not-has_place.false).0

pub returns : goal.returns
returns c =
    let r = larger_at (goal.at.returns c).Joined-get c.if-not-has_place.false in
    let e = c.bits-2.ensures.bits ∙ c.parent.ensures ∙ parent_place _ c.bits.ensures.code r.0 in
    subst (λ (x : ℕ). MetIs c.args.mesh.now.leaves c.args.leaf (side_no c.args.side) (Larger x)) (sym e) r.1
