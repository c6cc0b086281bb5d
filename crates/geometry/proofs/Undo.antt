-- A step back undoes a step: left undoes right, right undoes left, vertical undoes itself. What is glued at a side is glued
-- back, so the cell has both end corners of its neighbour's side, and the neighbour over that side is the only other cell.
-- Assumes nothing.
use mathlib.Core.Bool.{Bool, true, false}
use mathlib.Core.Logic.{◌⊎◌, inl, inr}
use mathlib.Core.Path.{◌≡◌, sym}
use Rattle.solids.specs.Triangles.{tip, lft, rgt, Side, left, right, vertical, back}
use Rattle.geometry.specs.Cells.{Cell, WellFormed, corner}
use Rattle.geometry.specs.Steps.{step}
use Rattle.geometry.specs.Neighbours.{Has}
use Rattle.geometry.proofs.Gluing.{Glued}
use Rattle.geometry.proofs.Across.{Across, across}
use Rattle.geometry.proofs.Neighbours.{only}

has_back : (m : Bool) (s : Side) (c n : Cell) → Glued m s (corner c) (corner n) → Has (back s) n c
has_back false left c n g = record { at₀ = lft; at₁ = tip; same₀ = sym g.glue₁; same₁ = sym g.glue₀ }
has_back false right c n g = record { at₀ = rgt; at₁ = tip; same₀ = sym g.glue₁; same₁ = sym g.glue₀ }
has_back false vertical c n g = record { at₀ = lft; at₁ = rgt; same₀ = sym g.glue₀; same₁ = sym g.glue₁ }
has_back true left c n g = record { at₀ = tip; at₁ = lft; same₀ = sym g.glue₀; same₁ = sym g.glue₁ }
has_back true right c n g = record { at₀ = tip; at₁ = rgt; same₀ = sym g.glue₀; same₁ = sym g.glue₁ }
has_back true vertical c n g = record { at₀ = rgt; at₁ = lft; same₀ = sym g.glue₁; same₁ = sym g.glue₀ }

pub undo : (s : Side) (c : Cell) → WellFormed c → step (back s) (step s c) ≡ c
undo s c h = go (only (back s) (step s c) c a.well_formed h (sym a.solid) (sym a.depth) has)
  where
    a : Across s c (step s c)
    a = across s c h

    has : Has (back s) (step s c) c
    has = has_back a.turned s c (step s c) a.glued

    go : (c ≡ step s c) ⊎ (c ≡ step (back s) (step s c)) → step (back s) (step s c) ≡ c
    go (inl e) = absurd (a.other (sym e))
    go (inr e) = sym e
