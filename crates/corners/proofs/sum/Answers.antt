-- No sum of two weights is more than that of all.
use Prim.Native.Nat.{ℕ, ◌+◌, ◌^◌, ◌<◌}
use lib.ListN.{get_or}
use Rattle.std.proofs.iter.Serving.{serving}
use Rattle.corners.proofs.Arrays.{sums_fit}
use Rattle.corners.proofs.sum.Goals as goal

pub from_fn-requires : goal.from_fn-requires
from_fn-requires c =
    let f : (v : ℕ) → v < 12 → get_or c.args.a v 0 + get_or c.args.b v 0 < 2 ^ 64 = λ v h. sums_fit c.args.a c.args.b v c.requires in
    grind (serving, f)
