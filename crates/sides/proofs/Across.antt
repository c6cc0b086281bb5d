-- What a side of a leaf of a mesh meets, by the cell across it, y, and by one search for y among the leaves.
--
--   open_met, equal_met, smaller_met, larger_met == the four cases by where y stands
--   equal_found, smaller_found, larger_found     == three of them by the first leaf that is not less than y
--
use mathlib.Core.List.{List}
use mathlib.Core.Logic.{⊎_elim}
use mathlib.Core.Path.{◌≡◌, sym, subst}
use Prim.Native.Nat.{ℕ, ◌<◌}
use native.Mathlib.Omega.{arith}
use lib.ListN.{length, get_or}
use Rattle.solids.specs.Triangles.{Side, left, right, vertical, side_no}
use Rattle.codes.specs.Codes.{depth, IsCode}
use Rattle.codes.specs.Places.{place, CodeOn, parent_code}
use Rattle.codes.proofs.Places.{on_solid_code}
use Rattle.codes.proofs.Sizes.{size_pos}
use Rattle.steps.specs.Stepped.{step_code}
use Rattle.steps.proofs.Laws.{step_laws}
use Rattle.soundness.specs.Regions.{InFaces}
use Rattle.soundness.specs.Leaves.{Leaf}
use Rattle.soundness.specs.Inner.{Inner, Around, Below}
use Rattle.soundness.specs.Meshes.{MeshOf}
use Rattle.soundness.specs.Sides.{MetIs}
use Rattle.soundness.specs.declared.Met.TheVariants.{Larger, Equal, Open}
use Rattle.soundness.proofs.Cells.{in_kid, range_in}
use Rattle.soundness.proofs.Leaves.{leaf_at, present_or, at_present}
use Rattle.soundness.proofs.Across.{equal_side, larger_side, smaller_side, open_side}
use Rattle.sides.specs.Sides.{smaller_of}

-- across side s of the leaf a lies the cell y, which has leaves inside, or lies inside one
abbrev pub SmallerAt : List ℕ → ℕ → ℕ → ℕ → Type 0
SmallerAt L a s y = (depth y < 26) × MetIs L a s (smaller_of y s) × IsCode y

abbrev pub LargerAt : List ℕ → ℕ → ℕ → ℕ → Type 0
LargerAt L a s y = (0 < depth y) × MetIs L a s (Larger (parent_code y)) × IsCode y

pub side_low : (s : Side) → side_no s < 3
side_low left = omega arith
side_low right = omega arith
side_low vertical = omega arith

pub leaf_code : (Q : ℕ) (L : List ℕ) (x : ℕ) → MeshOf Q L → Leaf L x → IsCode x
leaf_code Q L x M m = on_solid_code M.solid x (M.mesh.covers.cells x m)

module _ (L : List ℕ) (Q a s y : ℕ) (M : MeshOf Q L) (m : Leaf L a) (l : s < 3) (e : y ≡ step_code s a) where
  pub on_across : CodeOn M.solid y
  on_across = subst (CodeOn M.solid) (sym e) ((step_laws M.solid).on s a l (M.mesh.covers.cells a m))

  pub open_met : (InFaces Q (place y) → ⊥) → MetIs L a s Open
  open_met o =
      open_side M.solid Q step_code (step_laws M.solid) L M.mesh.covers M.mesh.level a s m l
      (subst (λ (x : ℕ). InFaces Q (place x) → ⊥) e o)

  pub equal_met : Leaf L y → MetIs L a s (Equal y)
  equal_met k =
      subst (λ (x : ℕ). MetIs L a s (Equal x)) (sym e)
      (equal_side M.solid Q step_code (step_laws M.solid) L M.mesh.covers M.mesh.level a s m l (subst (Leaf L) e k))

  pub smaller_met : Inner L y → MetIs L a s (smaller_of y s)
  smaller_met j =
      subst (λ (x : ℕ). MetIs L a s (smaller_of x s)) (sym e)
      (smaller_side M.solid Q step_code (step_laws M.solid) L M.mesh.covers M.mesh.level a s m l (subst (Inner L) e j))

  pub larger_met : Around L y → MetIs L a s (Larger (parent_code y))
  larger_met r =
      subst (λ (x : ℕ). MetIs L a s (Larger (parent_code x))) (sym e)
      (larger_side M.solid Q step_code (step_laws M.solid) L M.mesh.covers M.mesh.level a s m l (subst (Around L) e r))

  module _ (r : ℕ) (B : Below L y r) where
    pub equal_found : r < length L → get_or L r 0 ≡ y → MetIs L a s (Equal y)
    equal_found k i = equal_met (subst (Leaf L) i (leaf_at L r k))

    pub smaller_found : r < length L → (get_or L r 0 ≡ y → ⊥) → place (get_or L r 0) ≡ place y → SmallerAt L a s y
    smaller_found k ne i =
        let x = get_or L r 0 in
        let h = leaf_at L r k in
        let w = M.mesh.covers.cells x h in
        let u = range_in x y w on_across (B.rest r (omega arith) k) (omega (arith, i, size_pos (depth y))) in
        let d = (in_kid x y w on_across u ne).0 in
        (omega (arith, d, w.deep), smaller_met (record { leaf = x; is = h; inside = u; deeper = d }), on_solid_code M.solid y on_across)

    pub larger_found : InFaces Q (place y) → (r < length L → place (get_or L r 0) ≡ place y → ⊥) → LargerAt L a s y
    larger_found i ne =
        let o : Around L y =
        ⊎_elim
        (λ p. let t = at_present M.solid Q L M.mesh.covers y r on_across B i p in absurd (ne t.0 t.1))
        (λ o. o)
        (present_or M.solid Q L M.mesh.covers y on_across i) in
        (omega (arith, o.larger), larger_met o, on_solid_code M.solid y on_across)
