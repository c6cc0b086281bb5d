-- Each arm names the two digits on the side back of its side.
use mathlib.Core.Path.{refl, ◌∙◌, ap₂}
use Rattle.codes.proofs.Places.{child_place}
use Rattle.steps.specs.Edges.{first, second}
use Rattle.soundness.specs.declared.Met.TheVariants.{Smaller}
use Rattle.sides.proofs.smaller.Goals as goal
use Rattle.sides.proofs.smaller.Goals.{in-Left, in-Right, in-Vertical}

pub returns : goal.returns
unfolding first second
returns c =
    let two = ap₂ Smaller
    (c.bits.ensures.bits ∙ c.child.ensures ∙ child_place _ _ c.requires.code c.requires.depth)
    (c.bits-2.ensures.bits ∙ c.child-2.ensures ∙ child_place _ _ c.requires.code c.requires.depth) in
    two ∙ elim c.match-side.branch [
      | in-Left w ↦ rw (w.first-is, w.in-Left.is) refl
      | in-Right w ↦ rw (w.first-is, w.in-Right.is) refl
      | in-Vertical w ↦ rw (w.first-is, w.in-Vertical.is) refl
    ]
