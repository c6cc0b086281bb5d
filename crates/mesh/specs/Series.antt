-- Any series of our calls on one slice, refused ones included.
--
--   Reach S Q xs == the slots xs are left by a series of calls that begins with an accepted fresh mesh; S and Q are the solid
--                   and the faces of the last accepted call that made the mesh anew
--
-- Calls that lend the slice for reading write nothing, by their type, and are left out.
use Rattle.std.specs.Prelude.{List, ◌≢◌, ◌≡◌, ℕ}
use Rattle.soundness.specs.Regions.{FaceSet}
use Rattle.mesh.specs.Answers.{Outcome}
use Rattle.mesh.specs.Calls.{Freshened, Refined, Coarsened}

pub data Reach : ℕ → ℕ → List ℕ → Type 0 where
  start : (S Q : ℕ) {xs : List ℕ} {o : Outcome} → FaceSet S Q → Freshened S Q xs o → o.reply.number ≡ 0 → Reach S Q o.slots
  anew : {S Q : ℕ} (S' Q' : ℕ) {xs : List ℕ} {o : Outcome} → Reach S Q xs → FaceSet S' Q' → Freshened S' Q' xs o → o.reply.number ≡ 0 → Reach S' Q' o.slots
  not_anew : {S Q : ℕ} (S' Q' : ℕ) {xs : List ℕ} {o : Outcome} → Reach S Q xs → Freshened S' Q' xs o → o.reply.number ≢ 0 → Reach S Q o.slots
  refine : {S Q : ℕ} (Q' c : ℕ) {xs : List ℕ} {o : Outcome} → Reach S Q xs → Refined Q' xs c o → Reach S Q o.slots
  coarsen : {S Q : ℕ} (Q' c : ℕ) {xs : List ℕ} {o : Outcome} → Reach S Q xs → Coarsened Q' xs c o → Reach S Q o.slots
