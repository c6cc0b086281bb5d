-- Over any series of calls the mesh stays sound: a refused call writes nothing, an accepted one keeps what was sound so.
--
--   fresh_sound   == an accepted fresh mesh is sound
--   or_kept       == a refusal keeps sound slots sound, so what was asked for may be assumed
--   refine_keeps  == a refine leaves sound slots, whatever it answers, and whatever set of faces it is asked with
--   coarsen_keeps == so does a coarsen
--   reach_sound   == what a series of calls leaves is sound
--
-- Assumes nothing.
use mathlib.Core.List.{List}
use mathlib.Core.Logic.{◌⊎◌, inl, inr}
use mathlib.Core.Path.{◌≡◌, ap, sym, ◌∙◌, subst}
use Prim.Native.Nat.{ℕ, ◌<◌}
use native.Mathlib.Omega.{arith}
use lib.ListN.{length}
use Rattle.refusals.specs.Refusals.{SOLID, BUFFER, ROOM}
use Rattle.refusals.specs.Answers.{done}
use Rattle.refusals.proofs.Refusals.{met}
use Rattle.codes.specs.Codes.{solid, depth, IsCode, code_faults}
use Rattle.codes.specs.Places.{CodeOn, child_code}
use Rattle.codes.proofs.Places.{code_on_solid, solid_is}
use Rattle.soundness.specs.Regions.{FaceSet}
use Rattle.soundness.specs.Leaves.{Leaf, leaves, pad}
use Rattle.soundness.specs.Soundness.{Sound, SoundIn}
use Rattle.soundness.specs.Changes.{refined, coarsened}
use Rattle.soundness.specs.Sides.{BlocksRefine, BlocksCoarsen, Some}
use Rattle.soundness.proofs.Cells.{child_cell}
use Rattle.soundness.proofs.Fresh.{sound_solid, sound_faces}
use Rattle.soundness.proofs.Fresh as fresh
use Rattle.soundness.proofs.OnCodes.{refining_keeps, coarsening_keeps}
use Rattle.mesh.specs.Answers.{Outcome, outcome}
use Rattle.mesh.specs.Calls.{kept, BlockedBy, refine_end, coarsen_end, Freshened, Refined, Coarsened}
use Rattle.mesh.specs.Series.{Reach, start, anew, not_anew, refine, coarsen}

slots_same : {o p : Outcome} → o ≡ p → o.slots ≡ p.slots
slots_same e = ap (λ (x : Outcome). x.slots) e

-- a call that is done was not refused
not_kept : (xs : List ℕ) (o : Outcome) (k : ℕ) → 0 < k → o.reply.number ≡ 0 → o ≡ kept xs k → ⊥
not_kept xs o k h z e = omega (arith, ap (λ (p : Outcome). p.reply.number) e)

fresh_sound : (S Q : ℕ) (xs : List ℕ) (o : Outcome) → FaceSet S Q → Freshened S Q xs o → o.reply.number ≡ 0 → Sound S Q o.slots
fresh_sound S Q xs o ok f z =
    let short = met (not_kept xs o BUFFER (omega arith) z) f in
    let known = met (not_kept xs o SOLID (omega arith) z) short.1 in
    let room = met (not_kept xs o ROOM (omega arith) z) known.1 in
    subst (Sound S Q) (sym (slots_same room.1))
    (fresh.fresh_sound S Q (length xs) known.0 ok room.0 short.0)

-- a fresh call that was not accepted
fresh_kept : (S Q : ℕ) (xs : List ℕ) (o : Outcome) → Freshened S Q xs o → (o.reply.number ≡ 0 → ⊥) → o.slots ≡ xs
fresh_kept S Q xs o (inl h) n = slots_same h.1
fresh_kept S Q xs o (inr (short, inl h)) n = slots_same h.1
fresh_kept S Q xs o (inr (short, inr (known, inl h))) n = slots_same h.1
fresh_kept S Q xs o (inr (short, inr (known, inr (room, e)))) n = absurd (n (ap (λ (p : Outcome). p.reply.number) e))

module _ (S Q : ℕ) (xs : List ℕ) (o : Outcome) (s : Sound S Q xs) where
  abbrev Still : Type 0
  Still = Sound S Q o.slots

  left : (ys : List ℕ) → o.slots ≡ ys → Sound S Q ys → Still
  left ys e = subst (Sound S Q) (sym e)

  or_kept : {P X : Type 0} {k : ℕ} → ((P → ⊥) × (o ≡ kept xs k)) ⊎ (P × X) → (P → X → Still) → Still
  or_kept (inl h) f = left xs (slots_same h.1) s
  or_kept (inr h) f = f h.0 h.1

  code_or_kept : (c : ℕ) (rest : Outcome → Type 0) → code_faults (kept xs) c rest o → (IsCode c → rest o → Still) → Still
  code_or_kept c rest h f =
      or_kept h (λ known h₁. or_kept h₁ (λ on h₂. or_kept h₂ (λ deep h₃. or_kept h₃ (λ tail r.
      f (record { known = known; on = on; deep = deep; tail = tail }) r))))

  or_blocked : {X : Type 0} (P : ℕ → Type 0) → BlockedBy xs P o ⊎ ((Some P → ⊥) × X) → ((Some P → ⊥) → X → Still) → Still
  or_blocked P (inl h) f = left xs (slots_same h.is) s
  or_blocked P (inr h) f = f h.0 h.1

  -- the call's own set of faces
  asked_with : (Q' : ℕ) → SoundIn Q' xs → Sound S Q' xs
  asked_with Q' = subst (λ (T : ℕ). Sound T Q' xs) (sound_solid S Q xs s)

  made : (Q' : ℕ) (ys : List ℕ) → o ≡ outcome (done 0) ys → Sound S Q' xs → Sound S Q' ys → Still
  made Q' ys e s' n = left ys (slots_same e) (sound_faces S Q Q' xs ys s s' n)

  refine_keeps : (Q' c : ℕ) → Refined Q' xs c o → Still
  refine_keeps Q' c r =
      or_kept r (λ short r₁.
      or_kept r₁ (λ sound r₂.
      code_or_kept c (refine_end xs c) r₂ (λ code r₃.
      or_kept r₃ (λ leaf r₄.
      or_kept r₄ (λ deep r₅.
      or_blocked (BlocksRefine (leaves xs) c) r₅ (λ free r₆.
      or_kept r₆ (λ room e.
      let s' = asked_with Q' sound in
      made Q' (pad (length xs) (refined c (leaves xs))) e s' (refining_keeps S Q' c xs s' leaf deep free room))))))))

  coarsen_keeps : (Q' c : ℕ) → Coarsened Q' xs c o → Still
  coarsen_keeps Q' c r =
      or_kept r (λ short r₁.
      or_kept r₁ (λ sound r₂.
      code_or_kept c (coarsen_end xs c) r₂ (λ code r₃.
      or_kept r₃ (λ deep r₄.
      or_kept r₄ (λ four r₅.
      or_blocked (BlocksCoarsen (leaves xs) c) r₅ (λ free e.
      let s' = asked_with Q' sound in
      let w = on_solid c code deep (four 0 (omega arith)) in
      made Q' (pad (length xs) (coarsened c (leaves xs))) e s' (coarsening_keeps S Q' c xs s' w deep four free)))))))
    where
      -- the solid of a cell whose first child is a leaf
      on_solid : (c : ℕ) → IsCode c → depth c < 26 → Leaf (leaves xs) (child_code c 0) → CodeOn S c
      on_solid c code d m =
          let w = code_on_solid c code in
          let k = child_code c 0 in
          let e : solid c ≡ S = sym (solid_is (solid c) k (child_cell c 0 w d (omega arith))) ∙ solid_is S k (s.mesh.covers.cells k m) in
          subst (λ (T : ℕ). CodeOn T c) e w

pub reach_sound : {S Q : ℕ} {xs : List ℕ} → Reach S Q xs → Sound S Q xs
reach_sound (start S Q {xs} {o} ok f z) = fresh_sound S Q xs o ok f z
reach_sound (anew S' Q' {xs} {o} r ok f z) = fresh_sound S' Q' xs o ok f z
reach_sound (not_anew {S} {Q} S' Q' {xs} {o} r f n) = subst (Sound S Q) (sym (fresh_kept S' Q' xs o f n)) (reach_sound r)
reach_sound (refine {S} {Q} Q' c {xs} {o} r f) = refine_keeps S Q xs o (reach_sound r) Q' c f
reach_sound (coarsen {S} {Q} Q' c {xs} {o} r f) = coarsen_keeps S Q xs o (reach_sound r) Q' c f
