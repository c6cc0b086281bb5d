-- Tests that antt computes: over all numbers below a bound, over the corners, over the sides; and what a passed test says
-- at one place. The laws hold for any test.
-- Assumes nothing.
use mathlib.Core.Bool.{Bool, true, false, ◌&&◌, ◌||◌, not}
use mathlib.Core.Logic.{◌⊎◌, inl, inr}
use mathlib.Core.Path.{◌≡◌}
use Prim.Native.Nat.{ℕ, zero, suc, ◌<◌}
use native.Mathlib.Decide.{ℕ_discrete}
use native.Mathlib.Omega.{arith}
use lib.Dec.{T, eqb, eqb_refl}
use Rattle.solids.specs.Triangles.{Corner, tip, lft, rgt, Side, left, right, vertical}

pub and_l : (a b : Bool) → T (a && b) → T a
and_l true b h = tt
and_l false b h = h

pub and_r : (a b : Bool) → T (a && b) → T b
and_r true b h = h
and_r false b h = absurd h

pub and_i : (a b : Bool) → T a → T b → T (a && b)
and_i true b h k = k
and_i false b h k = h

pub or_cases : (a b : Bool) → T (a || b) → T a ⊎ T b
or_cases true b h = inl tt
or_cases false b h = inr h

pub implies : (a b : Bool) → T (not a || b) → T a → T b
implies true b h k = h
implies false b h k = absurd k

pub eq_eqb : (m n : ℕ) → m ≡ n → T (eqb m n)
eq_eqb m n e = rw e (eqb_refl n)

abbrev pub below : (ℕ → Bool) → ℕ → Bool
below t zero = true
below t (suc n) = t n && below t n

pub below_at : (t : ℕ → Bool) (n : ℕ) → T (below t n) → (k : ℕ) → k < n → T (t k)
below_at t zero h k l = absurd (omega arith)
below_at t (suc n) h k l = go (below_at t n (and_r (t n) (below t n) h) k) (ℕ_discrete k n)
  where
    go : (k < n → T (t k)) → Dec (k ≡ n) → T (t k)
    go r (yes e) = rw e (and_l (t n) (below t n) h)
    go r (no e) = r (omega arith)

abbrev pub corners_all : (Corner → Bool) → Bool
corners_all t = t tip && (t lft && t rgt)

pub corners_at : (t : Corner → Bool) → T (corners_all t) → (p : Corner) → T (t p)
corners_at t h tip = and_l (t tip) (t lft && t rgt) h
corners_at t h lft = and_l (t lft) (t rgt) (and_r (t tip) (t lft && t rgt) h)
corners_at t h rgt = and_r (t lft) (t rgt) (and_r (t tip) (t lft && t rgt) h)

abbrev pub sides_all : (Side → Bool) → Bool
sides_all t = t left && (t right && t vertical)

pub sides_at : (t : Side → Bool) → T (sides_all t) → (s : Side) → T (t s)
sides_at t h left = and_l (t left) (t right && t vertical) h
sides_at t h right = and_l (t right) (t vertical) (and_r (t left) (t right && t vertical) h)
sides_at t h vertical = and_r (t right) (t vertical) (and_r (t left) (t right && t vertical) h)
