-- Each turn goes one level down, by the next digit of the path.
use mathlib.Core.Path.{sym}
use Prim.Native.Nat.{◌^◌, ◌<◌}
use native.Mathlib.Omega.{arith}
use Rattle.solids.specs.Triangles.{Corner, tip, lft, rgt}
use Rattle.geometry.specs.Weights.{total}
use Rattle.corners.specs.Arrays.{at}
use Rattle.corners.proofs.Levels.{top, bottom, light, lower}
use Rattle.corners.proofs.of_cell.Goals as goal

pub loop-level-init : goal.loop-level-init
loop-level-init c = top c.args.code _ _ c.of_face-corners.result c.solid.ensures c.face.ensures.face c.of_face-corners.ensures

pub child-corners-requires : goal.child-corners-requires
child-corners-requires c =
    let l = c.loop-level in
    let a = l.corners in
    let h : (p : Corner) → total (at a p) < 2 ^ 63 = λ p. rw (l.invariant p) (light c.args.code l.level c.face.ensures.of_the_solid (omega (arith, c.depth-level-end.ensures.most)) p) in
    record { tip = h tip; left = h lft; right = h rgt }

pub loop-level-preserved : goal.loop-level-preserved
loop-level-preserved c =
    let l = c.loop-level in
    lower c.args.code l.level c.path-path.result l.corners c.child-corners.result (omega (arith, c.depth-level-end.ensures.most)) c.path-path.ensures l.invariant
    (rw (sym c.last_of.ensures) c.child-corners.ensures)

pub returns : goal.returns
returns c =
    let l = c.loop-level in
    bottom c.args.code l.level l.corners (omega (arith, c.depth-level-end.ensures.depth)) l.invariant
