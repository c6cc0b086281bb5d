-- The step by digits gives the neighbour of the corner rule, and there is no other. It is a neighbour since it is glued to
-- the cell at the side (proofs/Across); a second one would be a third cell at the side (proofs/Third).
-- Assumes nothing.
use mathlib.Core.List.{List}
use mathlib.Core.Logic.{◌⊎◌, inl, inr}
use mathlib.Core.Path.{◌≡◌, sym, subst⁻¹}
use Prim.Native.Nat.{ℕ, ◌<◌}
use lib.ListN.{length}
use Rattle.solids.specs.Triangles.{Side}
use Rattle.solids.specs.Solids.{Solid, faces}
use Rattle.solids.proofs.Seams.{to₀, to₁}
use Rattle.geometry.specs.Corners.{Digit}
use Rattle.geometry.specs.Cells.{Cell, cell, WellFormed, depth_of}
use Rattle.geometry.specs.Neighbours.{Has, Neighbour}
use Rattle.geometry.specs.Steps.{step}
use Rattle.geometry.proofs.Across.{across}
use Rattle.geometry.proofs.Third.{has_ends, third}

-- "The neighbour over a side is the one other cell of the same solid and depth that has both end corners of that side."
-- Demand 2, first half: the step gives such a cell.
pub neighbour : (s : Side) (c : Cell) → WellFormed c → Neighbour s c (step s c)
neighbour s c h =
    let a = across s c h in
    record {
      well_formed = a.well_formed;
      solid = a.solid;
      depth = a.depth;
      other = a.other;
      has = record { at₀ = to₀ a.turned s; at₁ = to₁ a.turned s; same₀ = a.glued.glue₀; same₁ = a.glued.glue₁ };
    }

-- a cell of c's own solid that has both end corners
only_here : (s : Side) (c : Cell) → WellFormed c → (g : ℕ) (es : List Digit) → WellFormed (cell c.solid g es) →
    length es ≡ depth_of c → Has s c (cell c.solid g es) →
    (cell c.solid g es ≡ c) ⊎ (cell c.solid g es ≡ step s c)
unfolding step
only_here s c h g es k e w =
    let n : Neighbour s c (step s c) = neighbour s c h in
    third s c h (has_ends s c h (step s c).face (step s c).path n.well_formed n.has) (has_ends s c h g es k w)
    (sym n.depth) (sym e) n.other

-- a cell that has both end corners is the cell itself or its neighbour
pub only : (s : Side) (c n : Cell) → WellFormed c → WellFormed n → n.solid ≡ c.solid → depth_of n ≡ depth_of c → Has s c n →
    (n ≡ c) ⊎ (n ≡ step s c)
only s c n h k e d w =
    subst⁻¹ (λ (so : Solid). n.face < faces so → Has s c (cell so n.face n.path) →
    (cell so n.face n.path ≡ c) ⊎ (cell so n.face n.path ≡ step s c)) e
    (λ k w. only_here s c h n.face n.path k d w) k w

-- Demand 2, second half: "the one".
pub one_neighbour : (s : Side) (c n : Cell) → WellFormed c → Neighbour s c n → n ≡ step s c
one_neighbour s c n h w = go (only s c n h w.well_formed w.solid w.depth w.has)
  where
    go : (n ≡ c) ⊎ (n ≡ step s c) → n ≡ step s c
    go (inl e) = absurd (w.other e)
    go (inr e) = e
