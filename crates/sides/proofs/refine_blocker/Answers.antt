-- The one leaf searched is the leaf itself.
use mathlib.Core.Bool.{false}
use Rattle.std.proofs.Common.{rules}
use Rattle.sides.proofs.Blocked.{refine_all}
use Rattle.sides.proofs.refine_blocker.Goals as goal

pub returns : goal.returns
returns c = refine_all _ _ _ (c.least_blocker.ensures false (λ m r p. search rules))
