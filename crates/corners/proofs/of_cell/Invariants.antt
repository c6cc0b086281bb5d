-- Each turn goes one level down, by the next digit of the path.
use Rattle.geometry.specs.Cells.{corner}
use Rattle.corners.specs.Arrays.{AreCorners}
use Rattle.corners.proofs.Levels.{above}
use Rattle.corners.proofs.of_cell.Given as goal

abbrev pub invariant-loop-level : goal.invariant-loop-level
invariant-loop-level l = AreCorners l.corners (corner (above l.fn.code l.level))
