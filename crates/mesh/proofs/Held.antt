-- What the inner functions ask for, of slots that hold a sound mesh of n leaves.
use mathlib.Core.List.{List}
use mathlib.Core.Path.{◌≡◌, ap, sym, ◌∙◌, subst}
use Prim.Native.Nat.{ℕ, ◌≤◌}
use native.Mathlib.Omega.{arith}
use lib.ListN.{length, take}
use Rattle.soundness.specs.Leaves.{Leaf, Ascends, leaves}
use Rattle.soundness.specs.Soundness.{Mesh, SoundIn}
use Rattle.soundness.specs.Meshes.{MeshOf}
use Rattle.soundness.proofs.Fresh.{leaves_le}
use Rattle.slots.proofs.Slots.{take-pad}
use Rattle.leaves.specs.Leaves.{Covered, Filled}
use Rattle.examine.specs.Examined.{first_solid}

pub held_covered : (Q : ℕ) (L : List ℕ) → MeshOf Q L → Covered L
held_covered Q L M = record { solid = M.solid; faces = Q; covers = M.mesh.covers }

module _ (Q : ℕ) (xs : List ℕ) (n : ℕ) (s : SoundIn Q xs) (count : n ≡ length (leaves xs)) where
  pub held_take : take n xs ≡ leaves xs
  held_take = ap (λ (k : ℕ). take k xs) count ∙ ap (take (length (leaves xs))) s.form ∙ take-pad (length xs) (leaves xs)

  pub held_upto : n ≤ length xs
  held_upto = omega (arith, count, leaves_le xs)

  pub held_mesh : Mesh (first_solid xs) Q (take n xs)
  held_mesh = subst (Mesh (first_solid xs) Q) (sym held_take) s.mesh

  pub held_ascend : Ascends (take n xs)
  held_ascend = held_mesh.covers.ascend

  pub held_filled : Filled xs n
  held_filled = record { form = s.form; count = sym count; ascend = s.mesh.covers.ascend }

  -- what a search among the leaves tells
  pub found_none : (a : ℕ) → (Leaf (take n xs) a → ⊥) → Leaf (leaves xs) a → ⊥
  found_none a f m = f (subst (λ (L : List ℕ). Leaf L a) (sym held_take) m)
