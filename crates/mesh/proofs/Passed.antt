-- What a call on a mesh may say once the slots are examined and the code is tried, and what a search among the leaves tells.
use mathlib.Core.List.{List}
use mathlib.Core.Path.{◌≡◌, subst}
use Prim.Native.Nat.{ℕ, ◌+◌, ◌<◌, ◌≤◌}
use native.Mathlib.Omega.{arith}
use lib.ListN.{length, get_or}
use Rattle.codes.specs.Codes.{IsCode, code_faults}
use Rattle.codes.specs.Places.{child_code}
use Rattle.codes.proofs.Faults.{code_on}
use Rattle.soundness.specs.Leaves.{Leaf}
use Rattle.soundness.specs.Soundness.{SoundIn}
use Rattle.soundness.proofs.Leaves.{leaf_at}
use Rattle.examine.specs.Examined.{mesh_faults}
use Rattle.mesh.proofs.Faults as faults

pub goes_on : {A : Type 0} (out : ℕ → A) (Q : ℕ) (xs : List ℕ) (c : ℕ) (rest : A → Type 0) {a : A} →
    length xs ≤ 8192 → SoundIn Q xs → IsCode c → rest a → mesh_faults out Q xs (code_faults out c rest) a
goes_on out Q xs c rest l s w r = faults.goes_on out Q xs (code_faults out c rest) l s (code_on out c rest w r)

pub found_leaf : (L : List ℕ) (i a : ℕ) → i < length L → get_or L i 0 ≡ a → Leaf L a
found_leaf L i a l e = subst (Leaf L) e (leaf_at L i l)

pub found_four : (L : List ℕ) (i c : ℕ) → i + 4 ≤ length L → ((q : ℕ) → q < 4 → get_or L (i + q) 0 ≡ child_code c q) → (q : ℕ) → q < 4 → Leaf L (child_code c q)
found_four L i c l f q k = found_leaf L (i + q) (child_code c q) (omega arith) (f q k)
