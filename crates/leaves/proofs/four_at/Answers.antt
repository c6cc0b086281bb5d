-- The first child is looked for, and the slots after it are compared: four leaves that are the children stand side by side.
use mathlib.Core.List.{List}
use mathlib.Core.Path.{◌≡◌, ◌∙◌, ap, sym, subst}
use Prim.Native.Nat.{ℕ, ◌+◌, ◌<◌, ◌≤◌}
use native.Mathlib.Omega.{arith}
use lib.ListN.{length, get_or}
use Rattle.std.proofs.lemmas.Bool.Decides.{Decides-eqb}
use Rattle.std.proofs.lemmas.Slice.Eq.{slice_eq-Decides}
use Rattle.codes.specs.Places.{child_code}
use Rattle.soundness.specs.Leaves.{Leaf}
use Rattle.leaves.proofs.Search.{fours_at, four_are, are_four}
use Rattle.leaves.proofs.four_at.Goals as goal
use Rattle.leaves.proofs.four_at.Goals.{In_ok-at}

first : (c : In_ok-at) → get_or c.children-children.result 0 0 ≡ child_code c.args.cell 0
first c = ap (λ (t : List ℕ). get_or t 0 0) c.children-children.ensures.children

-- if all four children are leaves they stand side by side
others : (c : In_ok-at) → ((q : ℕ) → q < 4 → Leaf c.args.leaves.now (child_code c.args.cell q)) → (q : ℕ) → q < 4 →
    (c.in_ok-at.at + q < length c.args.leaves.now) × (get_or c.args.leaves.now (c.in_ok-at.at + q) 0 ≡ child_code c.args.cell q)
others c =
    let f = c.in_ok-at.ensures in
    fours_at _ _ _ c.requires.covered c.requires.depth f.0 (f.1 ∙ first c)

pub returns-in_err-four : goal.returns-in_err-four
returns-in_err-four c =
    rw c.from_residual-in_err-four.ensures
    (λ four. omega (arith, (others (goal.at.returns-in_err-four c).In_ok-at four 3 (omega arith)).0, c.in_err-four.ensures.lookup))

pub returns-then-eq : goal.returns-then-eq
returns-then-eq c =
    let h = c.in_ok-four.ensures.lookup.0 in
    let l : c.in_ok-at.at + 4 ≤ length c.args.leaves.now = omega arith in
    let e = (slice_eq-Decides Decides-eqb _ _ _ c.eq.ensures).0 c.if-eq.true in
    (l, four_are _ _ _ l (sym h.2 ∙ e ∙ c.as_slice.ensures ∙ c.children-children.ensures.children))

pub returns-else-eq : goal.returns-else-eq
returns-else-eq c =
    λ four.
    let h = c.in_ok-four.ensures.lookup.0 in
    let o = others (goal.at.returns-else-eq c).In_ok-at four in
    let l : c.in_ok-at.at + 4 ≤ length c.args.leaves.now = omega arith in
    let e = h.2 ∙ are_four _ _ _ l (λ q k. (o q k).1) ∙ sym c.children-children.ensures.children ∙ sym c.as_slice.ensures in
    let t = (slice_eq-Decides Decides-eqb _ _ _ c.eq.ensures).1 e in
    cc (t, c.if-eq.false)
