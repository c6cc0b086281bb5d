-- The walk keeps the number of digits, so what it answers is below 4 to the depth.
use mathlib.Core.Bool.{Bool}
use mathlib.Core.Path.{◌≡◌, ◌∙◌}
use Prim.Native.Nat.{ℕ, ◌^◌, ◌<◌}
use lib.ListN.{length}
use Rattle.solids.specs.Triangles.{Side}
use Rattle.geometry.specs.Paths.{digits}
use Rattle.geometry.specs.Steps.{walked}
use Rattle.geometry.proofs.Paths.{number<, length-digits}
use Rattle.geometry.proofs.Across.{length-walked}
use Rattle.walk.specs.Walks.{Walks}

pub walk_fits : {s : Side} {p d r : ℕ} {x : Bool} → Walks s p d r x → r < 4 ^ d
walk_fits {s} {p} {d} w =
    let ds = walked s (digits d p) in
    let n : length ds ≡ d = length-walked s (digits d p) ∙ length-digits d p in
    rw w.path (rw n at (number< ds))
