-- Written so far and still to come are the faces of the set; at the end the zeros follow.
use mathlib.Core.Path.{◌∙◌, ap}
use Prim.Native.Nat.{ℕ}
use native.Mathlib.Omega.{arith}
use Rattle.codes.specs.Codes.{joined}
use Rattle.solids.specs.Solids.{solid_no}
use Rattle.soundness.specs.Changes.{fresh_leaves}
use Rattle.leaves.proofs.Fresh.{room, write_more, write_none}
use Rattle.leaves.proofs.fresh_into.Goals as goal
use Rattle.leaves.proofs.fresh_into.Goals.{then-contains, else-contains}

pub loop-face-preserved : goal.loop-face-preserved
loop-face-preserved c =
    let a = c.args in
    let l = c.loop-face in
    let S = solid_no a.solid in
    let last = c.faces-face-end.result in
    let F = fresh_leaves S a.faces in
    elim c.if-contains.branch [
      | then-contains w ↦
          let b = c.contains.ensures.yes w.if-contains.true in
          let h = room S a.faces last l.slots F l.count l.face l.invariant.1 l.invariant.2 c.loop-face-test.true b (omega (arith, c.requires)) in
          let v = w.join.ensures ∙ ap (λ (s : ℕ). joined s l.face 0 0) w.number.ensures in
          let r = write_more S a.faces last l.slots F l.count l.face l.invariant.1 l.invariant.2 c.loop-face-test.true b h _ _ _ w.slots-is w.count-is v in
          (r.0 ∙ l.invariant.0, r.1, r.2)
      | else-contains w ↦
          let r = write_none S a.faces last l.slots F l.count l.face l.invariant.1 l.invariant.2 c.loop-face-test.true (c.contains.ensures.no w.if-contains.false) _ _ w.slots-is w.count-is in
          (r.0 ∙ l.invariant.0, r.1, r.2)
    ]
