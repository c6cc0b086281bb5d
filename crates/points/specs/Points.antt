-- Points of a face, the way down to the cell that is located, and what it means that a cell holds a point.
--
--   Weights           == three weights, at the tip, the left and the right corner of a triangle
--   sum w             == their sum; 2^26 for the weights of a point
--   lower w           == one level down: the digit that is chosen, and the weights in that child
--   down w n          == the weights n levels down
--   path_to w n       == the digits that were chosen on the way, the last digit first
--   weighed w P v     == what the triangle P, taken by the weights w, weighs at vertex v
--   point_of so f w v == what the point of face f and weights w weighs at vertex v: the point itself, whichever face names it
--   Holds c X         == the closed triangle of c holds the point X
--
use Rattle.std.specs.Prelude.{List, [], ◌∷◌, ◌≡◌, ℕ, zero, suc, ◌+◌, ◌-◌, ◌*◌, ◌/◌, if◌then◌else◌, nat_le, slice_index}
use Rattle.solids.specs.Triangles.{tip, lft, rgt}
use Rattle.solids.specs.Solids.{Solid}
use Rattle.geometry.specs.Corners.{Digit, d00, d01, d10, d11, Triangle}
use Rattle.geometry.specs.Cells.{Cell, face_corners, corner}

-- "A point is a solid, a face and three weights (t, l, r) that sum to 2^26."
pub record Weights : Type 0 where
  pub t : ℕ
  pub l : ℕ
  pub r : ℕ

abbrev pub weights : ℕ → ℕ → ℕ → Weights
weights t l r = record { t = t; l = l; r = r }

abbrev pub sum : Weights → ℕ
sum w = w.t + w.l + w.r

-- "Let H be half of the sum."
abbrev pub half : Weights → ℕ
half w = sum w / 2

pub record Lowered : Type 0 where
  pub digit : Digit
  pub rest : Weights

abbrev pub to : Digit → Weights → Lowered
to d w = record { digit = d; rest = w }

-- "If t is at least H: digit 00, then (t−H, l, r). Else if l is at least H: 01, (t, l−H, r). Else if r is at most H: 10,
-- (H−t, H−r, H−l). Else 11, (t, l, r−H)."
abbrev pub lower : Weights → Lowered
lower w =
    if nat_le (half w) w.t then to d00 (weights (w.t - half w) w.l w.r)
    else if nat_le (half w) w.l then to d01 (weights w.t (w.l - half w) w.r)
    else if nat_le w.r (half w) then to d10 (weights (half w - w.t) (half w - w.r) (half w - w.l))
    else to d11 (weights w.t w.l (w.r - half w))

-- "Locating it at a depth goes down a level at a time."
unfoldable pub down : Weights → ℕ → Weights
down w zero = w
down w (suc n) = (lower (down w n)).rest

unfoldable pub path_to : Weights → ℕ → List Digit
path_to w zero = []
path_to w (suc n) = (lower (down w n)).digit ∷ path_to w n

abbrev pub weighed : Weights → Triangle → ℕ → ℕ
weighed w P v = w.t * slice_index (P tip) v + w.l * slice_index (P lft) v + w.r * slice_index (P rgt) v

abbrev pub point_of : Solid → ℕ → Weights → ℕ → ℕ
point_of so f w v = weighed w (face_corners so f) v

-- the point is the cell's corners taken by whole weights, none of them negative
pub record Holds (c : Cell) (X : ℕ → ℕ) : Type 0 where
  pub by : Weights
  pub same : (v : ℕ) → weighed by (corner c) v ≡ X v
