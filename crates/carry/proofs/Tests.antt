-- A test of places is computed at all 27 there are: in each direction the place after the last digit, and the four digits,
-- each reached by the walk or not.
--
--   every p == the test p holds at every place
use Rattle.std.proofs.Common.{Bool, true, false, ◌&&◌, T}
use Rattle.solids.specs.Triangles.{Side, left, right, vertical}
use Rattle.geometry.specs.Corners.{Digit, d00, d01, d10, d11}
use Rattle.carry.proofs.Slots.{Slot, pad, at}

first : (a b : Bool) → T (a && b) → T a
first true b t = tt
first false b t = t

second : (a b : Bool) → T (a && b) → T b
second true b t = t
second false b t = absurd t

abbrev sides : (Side → Bool) → Bool
sides q = q left && (q right && q vertical)

at_side : (q : Side → Bool) → T (sides q) → (s : Side) → T (q s)
at_side q t left = first (q left) (q right && q vertical) t
at_side q t right = first (q right) (q vertical) (second (q left) (q right && q vertical) t)
at_side q t vertical = second (q right) (q vertical) (second (q left) (q right && q vertical) t)

abbrev digits : (Digit → Bool) → Bool
digits q = (q d00 && q d01) && (q d10 && q d11)

at_digit : (q : Digit → Bool) → T (digits q) → (d : Digit) → T (q d)
at_digit q t d00 = first (q d00) (q d01) (first (q d00 && q d01) (q d10 && q d11) t)
at_digit q t d01 = second (q d00) (q d01) (first (q d00 && q d01) (q d10 && q d11) t)
at_digit q t d10 = first (q d10) (q d11) (second (q d00 && q d01) (q d10 && q d11) t)
at_digit q t d11 = second (q d10) (q d11) (second (q d00 && q d01) (q d10 && q d11) t)

module _ (p : Slot → Bool) where
  abbrev both : Side → Digit → Bool
  both s d = p (at s d true) && p (at s d false)

  abbrev towards : Side → Bool
  towards s = p (pad s) && digits (both s)

  abbrev pub every : Bool
  every = sides towards

  pub each : T every → (k : Slot) → T (p k)
  each t (pad s) = first (p (pad s)) (digits (both s)) (at_side towards t s)
  each t (at s d c) = flag c (at_digit (both s) (second (p (pad s)) (digits (both s)) (at_side towards t s)) d)
    where
      flag : (c : Bool) → T (both s d) → T (p (at s d c))
      flag true h = first (p (at s d true)) (p (at s d false)) h
      flag false h = second (p (at s d true)) (p (at s d false)) h
