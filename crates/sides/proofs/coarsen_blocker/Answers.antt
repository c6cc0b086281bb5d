-- The leaves searched are the four children, and a leaf smaller than one of them is two levels deeper than the cell.
use mathlib.Core.Bool.{true}
use Rattle.std.proofs.Common.{rules}
use mathlib.Core.List.{[], ◌∷◌}
use mathlib.Core.Path.{◌≡◌, refl, ◌∙◌, sym, subst}
use Prim.Native.Nat.{ℕ, ◌<◌}
use lib.ListN.{get_or}
use Rattle.codes.specs.Codes.{depth}
use Rattle.codes.specs.Places.{child_code}
use Rattle.codes.proofs.Places.{child_place}
use Rattle.soundness.specs.Leaves.{Leaf}
use Rattle.sides.proofs.Blocked.{four_deep, kids_are, coarsen_all}
use Rattle.sides.proofs.coarsen_blocker.Goals as goal
use Rattle.sides.proofs.coarsen_blocker.Goals.{After-bits-number, After-child-4}

deep : (c : After-bits-number) → depth c.args.cell < 26
deep c = four_deep _ _ _ c.codes-codes.ensures.mesh c.bits-number.ensures.code c.requires

pub child-requires : goal.child-requires
child-requires c = deep (goal.at.child-requires c).After-bits-number

pub child-requires-2 : goal.child-requires-2
child-requires-2 c = deep (goal.at.child-requires-2 c).After-bits-number

pub child-requires-3 : goal.child-requires-3
child-requires-3 c = deep (goal.at.child-requires-3 c).After-bits-number

pub child-requires-4 : goal.child-requires-4
child-requires-4 c = deep (goal.at.child-requires-4 c).After-bits-number

kids : (c : After-child-4) → (q : ℕ) → q < 4 → get_or (c.child.result ∷ c.child-2.result ∷ c.child-3.result ∷ c.child-4.result ∷ []) q 0 ≡ child_code c.args.cell q
kids c =
    let w = c.bits-number.ensures.code in
    let d = four_deep _ _ _ c.codes-codes.ensures.mesh w c.requires in
    kids_are _ _ _ _ _ (c.child.ensures ∙ child_place _ _ w d) (c.child-2.ensures ∙ child_place _ _ w d)
    (c.child-3.ensures ∙ child_place _ _ w d) (c.child-4.ensures ∙ child_place _ _ w d)

pub least_blocker-requires-clause-leaves : goal.least_blocker-requires-clause-leaves
least_blocker-requires-clause-leaves c =
    λ i l. subst (Leaf c.args.mesh.now.leaves) (sym (kids (goal.at.least_blocker-requires-clause-leaves c).After-child-4 i l)) (c.requires i l)

pub returns : goal.returns
returns c =
    coarsen_all _ _ (deep (goal.at.returns c).After-bits-number) _ refl (kids (goal.at.returns c).After-child-4) _ (c.least_blocker.ensures true (λ m r p. search rules))
