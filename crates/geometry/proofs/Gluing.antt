-- The walk glues: across a side, the corners of a cell and of the cell that the walk leads to are the same. Digit by digit,
-- since a child's corners are sums of its parent's; nothing is asked of a sum but that its terms may be exchanged.
--
--   Glued m s P Q == the ends of side s of P stand in Q as over a straight (m false) or a mirrored seam
--
-- Assumes nothing.
use mathlib.Core.Bool.{Bool, true, false, ◌&&◌, not, cond, true≢false, false≢true}
use mathlib.Core.List.{List, [], ◌∷◌, map}
use mathlib.Core.Path.{◌≡◌, refl}
use Rattle.solids.specs.Triangles.{tip, lft, rgt, Side, left, right, vertical, end₀, end₁}
use Rattle.solids.proofs.Seams.{to₀, to₁}
use Rattle.geometry.specs.Weights.{◌⊕◌}
use Rattle.geometry.specs.Corners.{Digit, d00, d01, d10, d11, Triangle, child_corners, corners}
use Rattle.geometry.specs.Steps.{stops, replaced, walked, crosses, mirror}
use Rattle.geometry.proofs.Weights.{⊕-comm}

pub record Glued (m : Bool) (s : Side) (P Q : Triangle) : Type 0 where
  pub glue₀ : Q (to₀ m s) ≡ P (end₀ s)
  pub glue₁ : Q (to₁ m s) ≡ P (end₁ s)

-- one digit; `a`, `b` and `c` let `cc` exchange the terms of a sum
module _ (P Q : Triangle)
    (a : P tip ⊕ P lft ≡ P lft ⊕ P tip)
    (b : P tip ⊕ P rgt ≡ P rgt ⊕ P tip)
    (c : P lft ⊕ P rgt ≡ P rgt ⊕ P lft) where
  digit_by_cases : (s : Side) (d : Digit) → Glued false s P Q →
      Glued false s (child_corners d P) (child_corners (replaced s d) (cond (stops s d) P Q))
  unfolding stops replaced
  digit_by_cases left d00 g = record { glue₀ = cc; glue₁ = cc }
  digit_by_cases left d01 g = record { glue₀ = cc; glue₁ = cc }
  digit_by_cases left d10 g = record { glue₀ = cc; glue₁ = cc }
  digit_by_cases left d11 g = record { glue₀ = cc; glue₁ = cc }
  digit_by_cases right d00 g = record { glue₀ = cc; glue₁ = cc }
  digit_by_cases right d01 g = record { glue₀ = cc; glue₁ = cc }
  digit_by_cases right d10 g = record { glue₀ = cc; glue₁ = cc }
  digit_by_cases right d11 g = record { glue₀ = cc; glue₁ = cc }
  digit_by_cases vertical d00 g = record { glue₀ = cc; glue₁ = cc }
  digit_by_cases vertical d01 g = record { glue₀ = cc; glue₁ = cc }
  digit_by_cases vertical d10 g = record { glue₀ = cc; glue₁ = cc }
  digit_by_cases vertical d11 g = record { glue₀ = cc; glue₁ = cc }

  mirrored_by_cases : (s : Side) (d : Digit) → stops s d ≡ false → Glued true s P Q →
      Glued true s (child_corners d P) (child_corners (mirror d) Q)
  unfolding stops mirror
  mirrored_by_cases left d00 e g = record { glue₀ = cc; glue₁ = cc }
  mirrored_by_cases left d01 e g = record { glue₀ = cc; glue₁ = cc }
  mirrored_by_cases left d10 e g = absurd (true≢false e)
  mirrored_by_cases left d11 e g = absurd (true≢false e)
  mirrored_by_cases right d00 e g = record { glue₀ = cc; glue₁ = cc }
  mirrored_by_cases right d01 e g = absurd (true≢false e)
  mirrored_by_cases right d10 e g = absurd (true≢false e)
  mirrored_by_cases right d11 e g = record { glue₀ = cc; glue₁ = cc }
  mirrored_by_cases vertical d00 e g = absurd (true≢false e)
  mirrored_by_cases vertical d01 e g = record { glue₀ = cc; glue₁ = cc }
  mirrored_by_cases vertical d10 e g = absurd (true≢false e)
  mirrored_by_cases vertical d11 e g = record { glue₀ = cc; glue₁ = cc }

-- a digit that stops leads to another child of P itself, one that climbs to a child of Q
digit_glued : (P Q : Triangle) (s : Side) (d : Digit) → Glued false s P Q →
    Glued false s (child_corners d P) (child_corners (replaced s d) (cond (stops s d) P Q))
digit_glued P Q = digit_by_cases P Q (⊕-comm (P tip) (P lft)) (⊕-comm (P tip) (P rgt)) (⊕-comm (P lft) (P rgt))

digit_mirrored : (P Q : Triangle) (s : Side) (d : Digit) → stops s d ≡ false → Glued true s P Q →
    Glued true s (child_corners d P) (child_corners (mirror d) Q)
digit_mirrored P Q = mirrored_by_cases P Q (⊕-comm (P tip) (P lft)) (⊕-comm (P tip) (P rgt)) (⊕-comm (P lft) (P rgt))

-- the whole path, inside P or over a straight seam to Q
pub walk_glued : (s : Side) (ds : List Digit) (P Q : Triangle) → Glued false s P Q →
    Glued false s (corners P ds) (corners (cond (crosses s ds) Q P) (walked s ds))
unfolding crosses walked corners
walk_glued s [] P Q g = g
walk_glued s (d ∷ ds) P Q g = go (stops s d) (digit_glued (corners P ds) X s d (walk_glued s ds P Q g))
  where
    X : Triangle
    X = corners (cond (crosses s ds) Q P) (walked s ds)

    go : (b : Bool) → Glued false s (child_corners d (corners P ds)) (child_corners (replaced s d) (cond b (corners P ds) X)) →
        Glued false s (child_corners d (corners P ds))
        (corners (cond (not b && crosses s ds) Q P) (replaced s d ∷ cond b ds (walked s ds)))
    go true h = h
    go false h = h

all_climb : (a b : Bool) → not a && b ≡ true → (a ≡ false) × (b ≡ true)
all_climb true b e = absurd (false≢true e)
all_climb false b e = (refl, e)

-- the whole path, over a mirrored seam to Q
pub mirror_glued : (s : Side) (ds : List Digit) (P Q : Triangle) → crosses s ds ≡ true → Glued true s P Q →
    Glued true s (corners P ds) (corners Q (map mirror ds))
unfolding crosses corners
mirror_glued s [] P Q e g = g
mirror_glued s (d ∷ ds) P Q e g =
    let h = all_climb (stops s d) (crosses s ds) e in
    digit_mirrored (corners P ds) (corners Q (map mirror ds)) s d h.0 (mirror_glued s ds P Q h.1 g)
