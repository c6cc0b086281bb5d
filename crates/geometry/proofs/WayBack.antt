-- The way back is of the same kind as the way here: a walk back stops where the walk here stopped, and a seam is of the same
-- kind from both of its faces.
-- Assumes nothing.
use mathlib.Core.Bool.{Bool, true, false, not, ◌&&◌, cond}
use mathlib.Core.List.{List, [], ◌∷◌, map}
use mathlib.Core.Path.{◌≡◌, refl}
use Rattle.solids.specs.Triangles.{Side, back}
use Rattle.solids.specs.Solids.{mirrored}
use Rattle.solids.proofs.Seams.{Joined, joined}
use Rattle.geometry.specs.Corners.{Digit}
use Rattle.geometry.specs.Cells.{Cell, WellFormed}
use Rattle.geometry.specs.Steps.{stops, walked, crosses, mirror, way_of, way, moved, step}
use Rattle.geometry.proofs.Children.{stops_back}

crosses_walked : (s : Side) (ds : List Digit) → crosses (back s) (walked s ds) ≡ crosses s ds
unfolding crosses walked
crosses_walked s [] = refl
crosses_walked s (d ∷ ds) = rw (stops_back false s d) (go (stops s d) (crosses_walked s ds))
  where
    go : (b : Bool) → crosses (back s) (walked s ds) ≡ crosses s ds →
        not b && crosses (back s) (cond b ds (walked s ds)) ≡ not b && crosses s ds
    go true r = refl
    go false r = r

crosses_mirrored : (s : Side) (ds : List Digit) → crosses (back s) (map mirror ds) ≡ crosses s ds
unfolding crosses
crosses_mirrored s [] = refl
crosses_mirrored s (d ∷ ds) = rw (stops_back true s d, crosses_mirrored s ds)

pub way_back : (s : Side) (c : Cell) → WellFormed c → way (back s) (step s c) ≡ way s c
unfolding way step
way_back s c h = go (crosses s c.path) refl (mirrored c.solid s c.face) refl
  where
    j : Joined c.solid c.face s
    j = joined c.solid c.face h s

    go : (b : Bool) → crosses s c.path ≡ b → (m : Bool) → mirrored c.solid s c.face ≡ m →
        way (back s) (moved (way_of b m) s c) ≡ way_of b m
    go false e m q = rw (crosses_walked s c.path, e)
    go true e false q = rw (crosses_walked s c.path, e, j.kind, q)
    go true e true q = rw (crosses_mirrored s c.path, e, j.kind, q)
