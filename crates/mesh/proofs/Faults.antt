-- The sequence 10, 11 with which every call on a mesh begins.
use mathlib.Core.List.{List}
use mathlib.Core.Logic.{inl, inr}
use mathlib.Core.Path.{refl}
use Prim.Native.Nat.{ℕ, ◌≤◌}
use lib.ListN.{length}
use Rattle.refusals.specs.Refusals.{BUFFER, MESH}
use Rattle.soundness.specs.Soundness.{SoundIn}
use Rattle.examine.specs.Examined.{mesh_faults}

module _ {A : Type 0} (out : ℕ → A) (Q : ℕ) (xs : List ℕ) (rest : A → Type 0) where
  pub too_long : (length xs ≤ 8192 → ⊥) → mesh_faults out Q xs rest (out BUFFER)
  too_long h = inl (h, refl)

  pub unsound : (length xs ≤ 8192) × (SoundIn Q xs → ⊥) → mesh_faults out Q xs rest (out MESH)
  unsound h = inr (h.0, inl (h.1, refl))

  pub goes_on : {a : A} → length xs ≤ 8192 → SoundIn Q xs → rest a → mesh_faults out Q xs rest a
  goes_on l s r = inr (l, inr (s, r))
