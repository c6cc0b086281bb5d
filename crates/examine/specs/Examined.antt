-- What an examination tells of the slots xs, for a set of faces Q.
--
--   first_solid xs  == the number of the solid of the first slot
--   whole_of xs     == all faces of that solid
--   mesh_faults     == what every call on a mesh asks first
--   Examined Q xs r == r is the sound mesh of the faces Q that the slots hold, or the refusal of their first fault
use Rattle.std.specs.Prelude.{List, ◌≡◌, ℕ, ◌≤◌, length, slice_index, Result, MatchResult}
use Rattle.refusals.specs.Refusals.{BUFFER, MESH, need}
use Rattle.refusals.specs.Answers.{refused, refusal}
use Rattle.refusals.specs.declared.Refusal.{Refusal}
use Rattle.codes.specs.Codes.{solid}
use Rattle.soundness.specs.Regions.{all_faces}
use Rattle.soundness.specs.Leaves.{leaves}
use Rattle.soundness.specs.Soundness.{SoundIn}
use Rattle.soundness.specs.Meshes.{Meshed}

abbrev pub first_solid : List ℕ → ℕ
first_solid xs = solid (slice_index xs 0)

abbrev pub whole_of : List ℕ → ℕ
whole_of xs = all_faces (first_solid xs)

-- every call on a mesh begins so: 10, 11
abbrev pub mesh_faults : {A : Type 0} → (ℕ → A) → ℕ → List ℕ → (A → Type 0) → A → Type 0
mesh_faults out Q xs rest = need (length xs ≤ 8192) (out BUFFER) (need (SoundIn Q xs) (out MESH) rest)

abbrev pub Examined : ℕ → List ℕ → Result Meshed Refusal → Type 0
Examined Q xs r =
    MatchResult r
    (λ m. (length xs ≤ 8192) × SoundIn Q xs × (m.faces ≡ Q) × (m.leaves ≡ leaves xs))
    (λ e. mesh_faults refused Q xs (λ _. ⊥) (refusal e))
