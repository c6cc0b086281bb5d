-- The parent is a code of the same solid, and so is the cell across its side.
use mathlib.Core.Path.{◌≡◌, ap, ◌∙◌, subst}
use Prim.Native.Nat.{ℕ}
use Rattle.solids.specs.Triangles.{side_no}
use Rattle.refusals.specs.Answers.{Tells}
use Rattle.codes.specs.Places.{parent_code}
use Rattle.codes.proofs.Places.{parent_place}
use Rattle.steps.specs.Stepped.{step_code}
use Rattle.soundness.specs.Inner.{Fine}
use Rattle.balance.proofs.Tiled.{tiled_code, parent_tiled, step_tiled}
use Rattle.balance.proofs.side_fine.Goals as goal
use Rattle.balance.proofs.side_fine.Goals.{After-parent-parent}

parent_is : (c : After-parent-parent) → c.parent-parent.result ≡ parent_code c.args.leaf
parent_is c = c.parent-parent.ensures ∙ parent_place c.args.leaf (tiled_code c.requires.tiled) c.requires.below

pub is_fine-requires : goal.is_fine-requires
is_fine-requires c =
    let p = c.requires in
    step_tiled c.args.side (parent_tiled p.tiled p.below (parent_is (goal.at.is_fine-requires c).After-parent-parent)) c.step_of.ensures

pub returns : goal.returns
returns c =
    let a = c.args in
    let e : c.step_of.result ≡ step_code (side_no a.side) (parent_code a.leaf) =
    c.step_of.ensures ∙ ap (step_code (side_no a.side)) (parent_is (goal.at.returns c).After-parent-parent) in
    subst (λ (x : ℕ). Tells c.is_fine.result (Fine a.tiles.now.faces a.tiles.now.leaves x)) e c.is_fine.ensures
