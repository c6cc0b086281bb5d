-- What the examination of a slice finds is whether it is sound: a prefix is a tiling, zeros follow, the level test passes.
--
--   passes_sound           == slots that pass are sound
--   sound_passes, sound_at == sound slots pass, at the one prefix that is a tiling
--
-- Assumes nothing.
use mathlib.Core.List.{List, ◌++◌}
use mathlib.Core.Path.{◌≡◌, sym, ◌∙◌, ap, subst}
use Prim.Native.Nat.{ℕ, ◌-◌, ◌≤◌}
use native.Mathlib.Omega.{arith}
use lib.ListN.{length, take, drop, replicate, take-append-drop}
use lib.Seq.{take-append_seam, drop-append_seam, length-take-le}
use Rattle.steps.specs.Edges.{StepLaws}
use Rattle.soundness.specs.Regions.{FaceSet}
use Rattle.soundness.specs.Leaves.{leaves, pad}
use Rattle.soundness.specs.Soundness.{Mesh, Sound}
use Rattle.soundness.specs.Inner.{Tiling, Rows, Passes}
use Rattle.soundness.proofs.Tiles.{tiling_covers, covers_tiling}
use Rattle.soundness.proofs.Fresh.{leaves_le}
use Rattle.soundness.proofs.Rows.{rows_level, level_rows}
use Rattle.soundness.proofs.Prefixes.{prefix_one, leaves_take}

module _ (S Q : ℕ) (step : ℕ → ℕ → ℕ) (N : StepLaws S step) (xs : List ℕ) where
  pub passes_sound : (n : ℕ) → FaceSet S Q → length xs ≤ 8192 → Passes step S Q xs n → Sound S Q xs
  passes_sound n ok short p =
      let L = take n xs in
      let C = tiling_covers S Q L p.tiling in
      let e : leaves xs ≡ L = leaves_take S Q xs n p.tiling p.zeros in
      let l : length L ≡ n = length-take-le n xs p.upto in
      let f : xs ≡ pad (length xs) L =
      sym (take-append-drop n xs) ∙ ap (λ (k : List ℕ). L ++ k) p.zeros ∙ ap (λ (k : ℕ). L ++ replicate (length xs - k) 0) (sym l) in
      record {
        region = ok;
        short = short;
        form = f ∙ ap (pad (length xs)) (sym e);
        mesh = subst (Mesh S Q) (sym e) (record { some = omega (arith, p.some); covers = C; level = rows_level S Q step N L C p.rows });
      }

  pub sound_passes : Sound S Q xs → Passes step S Q xs (length (leaves xs))
  sound_passes s =
      let L = leaves xs in
      let m = s.mesh in
      let t : take (length L) xs ≡ L = ap (take (length L)) s.form ∙ take-append_seam L (replicate (length xs - length L) 0) in
      record {
        some = m.some;
        upto = leaves_le xs;
        tiling = subst (Tiling S Q) (sym t) (covers_tiling S Q L m.covers);
        zeros = ap (drop (length L)) s.form ∙ drop-append_seam L (replicate (length xs - length L) 0);
        rows = subst (Rows Q step) (sym t) (level_rows S Q step N L m.covers m.level);
      }

  pub sound_at : (n : ℕ) → n ≤ length xs → Tiling S Q (take n xs) → Sound S Q xs → Passes step S Q xs n
  sound_at n h t s =
      let p = sound_passes s in
      subst (Passes step S Q xs) (prefix_one S Q xs (length (leaves xs)) n p.upto h p.tiling t) p
