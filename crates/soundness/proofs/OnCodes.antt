-- Changes and sides of a mesh, for the step on codes: the laws of proofs/Refine, proofs/Coarsen and proofs/Across with nothing
-- left open.
--
--   refining_keeps, coarsening_keeps == changes that nothing blocks keep sound slots sound
--   each_side                        == on the whole solid each side meets one leaf or two smaller
--
-- Assumes nothing.
use mathlib.Core.List.{List}
use Prim.Native.Nat.{ℕ, ◌+◌, ◌<◌, ◌≤◌}
use lib.ListN.{length}
use Rattle.codes.specs.Codes.{depth}
use Rattle.codes.specs.Places.{CodeOn, child_code}
use Rattle.steps.specs.Stepped.{step_code}
use Rattle.steps.proofs.Laws.{step_laws}
use Rattle.soundness.specs.Regions.{all_faces}
use Rattle.soundness.specs.Leaves.{Leaf, leaves, pad}
use Rattle.soundness.specs.Soundness.{Mesh, Sound}
use Rattle.soundness.specs.Changes.{refined, coarsened}
use Rattle.soundness.specs.Sides.{OneOrTwo, BlocksRefine, BlocksCoarsen, Some}
use Rattle.soundness.proofs.Across.{whole_side}
use Rattle.soundness.proofs.Refine.{refine_sound}
use Rattle.soundness.proofs.Coarsen.{coarsen_sound}

pub refining_keeps : (S Q a : ℕ) (xs : List ℕ) → Sound S Q xs → Leaf (leaves xs) a → depth a < 26 →
    (Some (BlocksRefine (leaves xs) a) → ⊥) → length (leaves xs) + 3 ≤ length xs → Sound S Q (pad (length xs) (refined a (leaves xs)))
refining_keeps S Q = refine_sound S Q step_code (step_laws S)

pub coarsening_keeps : (S Q c : ℕ) (xs : List ℕ) → Sound S Q xs → CodeOn S c → depth c < 26 →
    ((q : ℕ) → q < 4 → Leaf (leaves xs) (child_code c q)) → (Some (BlocksCoarsen (leaves xs) c) → ⊥) →
    Sound S Q (pad (length xs) (coarsened c (leaves xs)))
coarsening_keeps S Q = coarsen_sound S Q step_code (step_laws S)

pub each_side : (S : ℕ) (L : List ℕ) → Mesh S (all_faces S) L → (a s : ℕ) → Leaf L a → s < 3 → OneOrTwo L a s
each_side S = whole_side S step_code (step_laws S)
