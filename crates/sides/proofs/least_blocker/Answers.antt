-- At every side the least of the sides before it is known; a leaf in the way that is the first of the mesh is the least of all.
use mathlib.Core.List.{List}
use mathlib.Core.Path.{◌∙◌, ap}
use Prim.Native.Nat.{ℕ}
use lib.ListN.{get_or}
use Rattle.sides.proofs.Rows.{seen_pass, seen_more, seen_row, seen_all, one_side, first_least}
use Rattle.sides.proofs.least_blocker.Goals as goal
use Rattle.sides.proofs.least_blocker.Goals.{in-Some+else-blocker-first, in_default, then-loop-leaf-test+then-loop-side-test+in-Some+then-blocker-first, else-loop-leaf-test}

pub loop-side-preserved : goal.loop-side-preserved
loop-side-preserved g c = λ small h.
    let B = c.loop-side.invariant small h in
    let k = h c.side_of.result c.blocks-in-loop-side.result c.blocks-in-loop-side.ensures in
    let b = one_side _ small _ _ _ _ _ _ c.loop-leaf-test.true c.loop-side-test.true c.leaf-item.is c.side_of.ensures k in
    elim c.match-blocks.branch [
      | in-Some+else-blocker-first w ↦ let b' = rw w.in-Some.is at b in rw w.least-is (seen_more _ _ _ _ _ c.loop-side-test.true _ _ _ B b' w.lower.ensures)
      | in_default w ↦ rw w.least-is (seen_pass _ _ _ _ _ c.loop-side-test.true _ B (rw w.in_default.is at b))
    ]

pub loop-leaf-preserved : goal.loop-leaf-preserved
loop-leaf-preserved g c = λ small h. seen_row _ _ _ _ _ _ c.loop-side-test.false (c.loop-side.invariant small h)

pub returns : goal.returns
returns g c = λ small h.
    elim c.loop-leaf-test.branch [
      | then-loop-leaf-test+then-loop-side-test+in-Some+then-blocker-first w ↦
          let k = h w.side_of.result w.blocks-in-loop-side.result w.blocks-in-loop-side.ensures in
          let b = rw w.in-Some.is at (one_side _ small _ _ _ _ _ _ w.loop-leaf-test.true w.loop-side-test.true w.leaf-item.is w.side_of.ensures k) in
          let e = w.if-blocker-first.true ∙ ap (λ (L : List ℕ). get_or L 0 0) c.codes.ensures.codes in
          rw w.result-is (first_least _ _ _ _ _ _ c.codes.ensures.mesh.mesh.covers.ascend w.loop-leaf-test.true w.loop-side-test.true e b)
      | else-loop-leaf-test w ↦ rw w.result-is (seen_all _ _ _ _ _ c.loop-leaf.auto.leaf-index-end w.loop-leaf-test.false (c.loop-leaf.invariant small h))
    ]
