-- The slots before `end` follow each other up to `want`, where the next one of every tiling begins.
use Rattle.std.proofs.Common.{◌≡◌}
use Rattle.solids.specs.Solids.{solid_no}
use Rattle.codes.specs.Places.{end}
use Rattle.tiling.proofs.Pass.{Pass}
use Rattle.tiling.proofs.Tiles.of.Given as goal

abbrev pub invariant-loop-at : goal.invariant-loop-at
invariant-loop-at l = (l.last ≡ end (solid_no l.fn.solid)) × (l.end ≡ l.at) × Pass (solid_no l.fn.solid) l.faces l.slots l.want l.at
