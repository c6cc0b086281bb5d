-- From the linear pass, the zeros and the level test to soundness, and back: a slice that fails one of them is not sound.
use mathlib.Core.List.{List}
use mathlib.Core.Path.{◌≡◌, ap, sym, ◌∙◌, subst}
use Prim.Native.Nat.{ℕ, ◌-◌, ◌*◌, ◌%◌, ◌^◌, ◌<◌, ◌≤◌}
use native.Mathlib.Nat.{mod-eq_of_lt}
use native.Mathlib.Omega.{arith}
use lib.ListN.{length, get_or, take}
use lib.Pow.{pow_mono, pow_pos}
use Rattle.solids.specs.Solids.{Known, solid_of, faces}
use Rattle.solids.proofs.Numbers.{faces_few}
use Rattle.codes.specs.Codes.{solid}
use Rattle.steps.specs.Stepped.{step_code}
use Rattle.steps.proofs.Laws.{step_laws}
use Rattle.soundness.specs.Regions.{all_faces, FaceSet}
use Rattle.soundness.specs.Leaves.{leaves}
use Rattle.soundness.specs.Soundness.{Sound, SoundIn}
use Rattle.soundness.specs.Inner.{Rows, Passes}
use Rattle.soundness.proofs.Examine.{passes_sound, sound_passes, sound_at}
use Rattle.soundness.proofs.Prefixes.{leaves_take}
use Rattle.soundness.proofs.Fresh.{head_leaf}
use Rattle.slots.specs.Slots.{ZerosFrom}
use Rattle.tiling.specs.Tiling.{Counts}

module _ (xs : List ℕ) (S Q n : ℕ) (e : S ≡ solid (get_or xs 0 0)) (c : Counts S Q xs n) where
  own : SoundIn Q xs → Sound S Q xs
  own = subst (λ (k : ℕ). Sound k Q xs) (sym e)

  pub untiled : n ≡ 0 → SoundIn Q xs → ⊥
  untiled z s =
      let p = sound_passes S Q step_code (step_laws S) xs (own s) in
      c.none z (length (leaves xs)) p.some p.upto p.tiling

  module _ (h : 0 < n) where
    passes : SoundIn Q xs → Passes step_code S Q xs n
    passes s = sound_at S Q step_code (step_laws S) xs n c.upto (c.some h) (own s)

    pub not_zeros : (ZerosFrom xs n → ⊥) → SoundIn Q xs → ⊥
    not_zeros z s = z (passes s).zeros

    pub not_level : (Rows Q step_code (take n xs) → ⊥) → SoundIn Q xs → ⊥
    not_level r s = r (passes s).rows

    pub seen : FaceSet S Q → length xs ≤ 8192 → ZerosFrom xs n → Rows Q step_code (take n xs) → SoundIn Q xs × (take n xs ≡ leaves xs)
    seen f l z r =
        let p : Passes step_code S Q xs n = record { some = h; upto = c.upto; tiling = c.some h; zeros = z; rows = r } in
        (subst (λ (k : ℕ). Sound k Q xs) e (passes_sound S Q step_code (step_laws S) xs n f l p), sym (leaves_take S Q xs n (c.some h) z))

-- a sound slice has a first slot, of a known solid
pub sound_first : (Q : ℕ) (xs : List ℕ) → SoundIn Q xs → (0 < length xs) × Known (solid (get_or xs 0 0))
sound_first Q xs s =
    let m = s.mesh in
    (omega (arith, (sound_passes (solid (get_or xs 0 0)) Q step_code (step_laws (solid (get_or xs 0 0))) xs s).upto, m.some), (m.covers.cells (get_or xs 0 0) (head_leaf xs m.some)).known)

-- a bit for each face
module _ (S f : ℕ) (e : f ≡ faces (solid_of S)) where
  pub few : f < 64
  few = omega (arith, faces_few (solid_of S))

  bits : (1 * 2 ^ f) % 2 ^ 64 ≡ 2 ^ f
  bits = let l : f ≤ 63 = omega (arith, few) in ap (λ (k : ℕ). k % 2 ^ 64) (omega arith) ∙ mod-eq_of_lt (omega (arith, pow_mono l))

  pub mask_some : 1 ≤ (1 * 2 ^ f) % 2 ^ 64
  mask_some = rw bits (pow_pos f)

  pub mask_whole : (1 * 2 ^ f) % 2 ^ 64 - 1 ≡ all_faces S
  unfolding all_faces
  mask_whole = ap (λ (k : ℕ). k - 1) (bits ∙ ap (λ (k : ℕ). 2 ^ k) e)
