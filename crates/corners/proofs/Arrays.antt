-- Corners as arrays are told corner by corner, a side end by end; sums of weights.
use mathlib.Core.Bool.{Bool, true, false, true≢false}
use mathlib.Core.List.{List}
use mathlib.Core.Path.{◌≡◌, sym, ◌∙◌}
use Prim.Native.Nat.{ℕ, ◌+◌, ◌^◌, ◌<◌}
use native.Mathlib.Omega.{arith}
use lib.ListN.{length, get_or}
use lib.Seq.{ext_get_or}
use Rattle.solids.specs.Triangles.{Corner, tip, lft, rgt, Side, end₀, end₁}
use Rattle.refusals.specs.Answers.{Tells}
use Rattle.geometry.specs.Weights.{◌⊕◌, total}
use Rattle.geometry.specs.Corners.{Triangle}
use Rattle.geometry.proofs.Weights.{get_or-⊕, length-⊕, weight≤total}
use Rattle.corners.specs.declared.Corners.{Corners}
use Rattle.corners.specs.Arrays.{at, AreCorners, HasCorner, HasSide}

pub three : (c : Corners) (P : Triangle) → c.tip ≡ P tip → c.left ≡ P lft → c.right ≡ P rgt → AreCorners c P
three c P t l r tip = t
three c P t l r lft = l
three c P t l r rgt = r

-- where it is not the tip and not the left corner, the right one tells
pub last_corner : {b : Bool} (c : Corners) (x : List ℕ) → (c.tip ≡ x → ⊥) → (c.left ≡ x → ⊥) → Tells b (c.right ≡ x) →
    Tells b (HasCorner (at c) x)
last_corner {b} c x t l r = record { yes = λ e. record { corner = rgt; is = r.yes e }; no = λ e h. go e h.corner h.is }
  where
    go : b ≡ false → (p : Corner) → at c p ≡ x → ⊥
    go e tip i = t i
    go e lft i = l i
    go e rgt i = r.no e i

-- where the first end is there, the second tells; where it is not, there is nothing more to ask
module _ (s : Side) (P Q : Triangle) where
  pub second_tells : {a b : Bool} → Tells a (HasCorner Q (P (end₀ s))) → a ≡ true → Tells b (HasCorner Q (P (end₁ s))) →
      Tells b (HasSide s P Q)
  second_tells f i t = record { yes = λ e. record { first = f.yes i; second = t.yes e }; no = λ e h. t.no e h.second }

  pub first_tells : {a : Bool} → Tells a (HasCorner Q (P (end₀ s))) → a ≡ false → Tells a (HasSide s P Q)
  first_tells f i = record { yes = λ e. absurd (true≢false (sym e ∙ i)); no = λ e h. f.no e h.first }

-- no sum of two weights is more than that of all
pub sums_fit : (a b : List ℕ) (v : ℕ) → total a + total b < 2 ^ 64 → get_or a v 0 + get_or b v 0 < 2 ^ 64
sums_fit a b v h = omega (arith, weight≤total a v, weight≤total b v)

pub sum_is : (a b r : List ℕ) → length a ≡ 12 → length b ≡ 12 → length r ≡ 12 →
    ((v : ℕ) → v < 12 → get_or r v 0 ≡ get_or a v 0 + get_or b v 0) → r ≡ a ⊕ b
sum_is a b r e f g h = ext_get_or 0 r (a ⊕ b) (g ∙ sym (length-⊕ 12 a b e f)) (λ v i. h v (omega arith) ∙ sym (get_or-⊕ a b v))
