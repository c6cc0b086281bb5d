-- The step by digits leads to another cell of the same solid and depth, glued to the cell at the side: its walk inside a
-- face changes a digit, and over a seam the face is another one.
--
--   Across s c n == n is such a cell over side s of c
--
-- Assumes nothing.
use mathlib.Core.Bool.{Bool, true, false, ◌&&◌, not, cond, true≢false, false≢true}
use mathlib.Core.List.{List, [], ◌∷◌}
use mathlib.Core.Logic.{◌≢◌}
use mathlib.Core.Path.{◌≡◌, refl, ap, subst}
use Prim.Native.Nat.{ℕ, suc}
use native.Mathlib.Omega.{arith}
use lib.ListN.{length, length-map}
use Rattle.solids.specs.Triangles.{Corner, tip, lft, rgt, Side, left, right, vertical}
use Rattle.solids.specs.Solids.{Solid, next_face, mirrored}
use Rattle.solids.proofs.Seams.{Joined, joined}
use Rattle.geometry.specs.Weights.{unit}
use Rattle.geometry.specs.Corners.{Digit, d00, d01, d10, d11, Triangle, corners}
use Rattle.geometry.specs.Cells.{Cell, WellFormed, depth_of, face_corners, corner}
use Rattle.geometry.specs.Steps.{stops, replaced, walked, crosses, mirror, way_of, way, flips, moved, step}
use Rattle.geometry.proofs.Gluing.{Glued, walk_glued, mirror_glued}

pub record Across (s : Side) (c n : Cell) : Type 0 where
  pub well_formed : WellFormed n
  pub solid : n.solid ≡ c.solid
  pub depth : depth_of n ≡ depth_of c
  pub other : n ≢ c
  pub turned : Bool
  pub glued : Glued turned s (corner c) (corner n)
  pub kind : turned ≡ flips (way s c)

-- the walk keeps the number of digits

pub length-walked : (s : Side) (ds : List Digit) → length (walked s ds) ≡ length ds
unfolding walked
length-walked s [] = refl
length-walked s (d ∷ ds) = ap suc (go (stops s d) (length-walked s ds))
  where
    go : (b : Bool) → length (walked s ds) ≡ length ds → length (cond b ds (walked s ds)) ≡ length ds
    go true e = refl
    go false e = e

-- a walk that ends within the path changes it

stop_changes : (s : Side) (d : Digit) → stops s d ≡ true → replaced s d ≢ d
unfolding stops replaced
stop_changes left d00 e = absurd (false≢true e)
stop_changes left d01 e = absurd (false≢true e)
stop_changes left d10 e = λ p. let z : ◌≡◌ {A = ℕ} 0 1 = cc in omega arith
stop_changes left d11 e = λ p. let z : ◌≡◌ {A = ℕ} 0 1 = cc in omega arith
stop_changes right d00 e = absurd (false≢true e)
stop_changes right d01 e = λ p. let z : ◌≡◌ {A = ℕ} 0 1 = cc in omega arith
stop_changes right d10 e = λ p. let z : ◌≡◌ {A = ℕ} 0 1 = cc in omega arith
stop_changes right d11 e = absurd (false≢true e)
stop_changes vertical d00 e = λ p. let z : ◌≡◌ {A = ℕ} 0 1 = cc in omega arith
stop_changes vertical d01 e = absurd (false≢true e)
stop_changes vertical d10 e = λ p. let z : ◌≡◌ {A = ℕ} 0 1 = cc in omega arith
stop_changes vertical d11 e = absurd (false≢true e)

walk_changes : (s : Side) (ds : List Digit) → crosses s ds ≡ false → walked s ds ≢ ds
unfolding crosses walked
walk_changes s [] e p = true≢false e
walk_changes s (d ∷ ds) e p = go (stops s d) refl e p (walk_changes s ds)
  where
    go : (b : Bool) → stops s d ≡ b → not b && crosses s ds ≡ false → replaced s d ∷ cond b ds (walked s ds) ≡ d ∷ ds →
        (crosses s ds ≡ false → walked s ds ≢ ds) → ⊥
    go true q x y r = let z : replaced s d ≡ d = cc in stop_changes s d q z
    go false q x y r = let z : walked s ds ≡ ds = cc in r x z

-- the faces at a seam are glued; and a triangle turned about itself is glued to itself, for a walk that stays inside

face_glued : (so : Solid) (f : ℕ) (s : Side) → Joined so f s →
    Glued (mirrored so s f) s (face_corners so f) (face_corners so (next_face so s f))
face_glued so f s j = record { glue₀ = ap (unit 12) j.meet₀; glue₁ = ap (unit 12) j.meet₁ }

abbrev turn : Side → Corner → Corner
turn left tip = lft
turn left lft = rgt
turn left rgt = tip
turn right tip = rgt
turn right lft = tip
turn right rgt = lft
turn vertical tip = tip
turn vertical lft = lft
turn vertical rgt = rgt

turn_glued : (s : Side) (P : Triangle) → Glued false s P (λ p. P (turn s p))
turn_glued left P = record { glue₀ = refl; glue₁ = refl }
turn_glued right P = record { glue₀ = refl; glue₁ = refl }
turn_glued vertical P = record { glue₀ = refl; glue₁ = refl }

pub across : (s : Side) (c : Cell) → WellFormed c → Across s c (step s c)
unfolding step way
across s c h = go (crosses s c.path) refl (mirrored c.solid s c.face) refl
  where
    ds : List Digit
    ds = c.path

    P : Triangle
    P = face_corners c.solid c.face

    Q : Triangle
    Q = face_corners c.solid (next_face c.solid s c.face)

    j : Joined c.solid c.face s
    j = joined c.solid c.face h s

    seam : Glued (mirrored c.solid s c.face) s P Q
    seam = face_glued c.solid c.face s j

    go : (b : Bool) → crosses s ds ≡ b → (m : Bool) → mirrored c.solid s c.face ≡ m → Across s c (moved (way_of b m) s c)
    go false e m q = record {
      well_formed = h;
      solid = refl;
      depth = length-walked s ds;
      other = λ p. walk_changes s ds e (ap (λ (x : Cell). x.path) p);
      turned = false;
      glued = subst (λ (b : Bool). Glued false s (corners P ds) (corners (cond b (λ p. P (turn s p)) P) (walked s ds))) e
          (walk_glued s ds P (λ p. P (turn s p)) (turn_glued s P));
      kind = rw e;
    }
    go true e false q = record {
      well_formed = j.there;
      solid = refl;
      depth = length-walked s ds;
      other = λ p. j.other (ap (λ (x : Cell). x.face) p);
      turned = false;
      glued = subst (λ (b : Bool). Glued false s (corners P ds) (corners (cond b Q P) (walked s ds))) e
          (walk_glued s ds P Q (subst (λ (m : Bool). Glued m s P Q) q seam));
      kind = rw (e, q);
    }
    go true e true q = record {
      well_formed = j.there;
      solid = refl;
      depth = length-map ds mirror;
      other = λ p. j.other (ap (λ (x : Cell). x.face) p);
      turned = true;
      glued = mirror_glued s ds P Q e (subst (λ (m : Bool). Glued m s P Q) q seam);
      kind = rw (e, q);
    }
