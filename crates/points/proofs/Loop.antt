-- The loop that goes down: what holds after n levels.
use mathlib.Core.Path.{◌≡◌, ap, ◌∙◌, subst}
use Prim.Native.Nat.{ℕ, ◌+◌, ◌-◌, ◌*◌, ◌^◌, ◌<◌, ◌≤◌}
use native.Mathlib.Nat.{pow-le-pow_right}
use native.Mathlib.Numerals.{add-one}
use native.Mathlib.Omega.{arith}
use lib.Pow.{pow_mono}
use Rattle.geometry.specs.Paths.{digit_no, number}
use Rattle.geometry.proofs.Paths.{number<}
use Rattle.points.specs.Points.{Weights, weights, sum, lower, down, path_to}
use Rattle.points.proofs.Down.{down_sum, length-path_to}

pub record Reached (w : Weights) (n a b c path : ℕ) : Type 0 where
  pub here : weights a b c ≡ down w n
  pub digits : path ≡ number (path_to w n)

-- the weights sum to 2^26 at most, and the path fits
pub small : (w : Weights) → sum w ≡ 2 ^ 26 → (n a b c path : ℕ) → n ≤ 26 → Reached w n a b c path → (a + b + c ≤ 2 ^ 26) × (path < 4 ^ n) × (4 ^ n ≤ 4 ^ 26)
small w e n a b c path h k =
    let m : 26 - n ≤ 26 = omega arith in (
      omega (arith, ap sum k.here ∙ down_sum w e n h, pow_mono m),
      rw k.digits (subst (λ (m : ℕ). number (path_to w n) < 4 ^ m) (length-path_to w n) (number< (path_to w n))),
      pow-le-pow_right {n = 4} (omega arith) h,
    )

-- one level more
pub again : (w : Weights) (n a b c path q a' b' c' : ℕ) → Reached w n a b c path → q ≡ digit_no (lower (weights a b c)).digit →
    weights a' b' c' ≡ (lower (weights a b c)).rest → Reached w (n + 1) a' b' c' (path * 4 + q)
unfolding down path_to number
again w n a b c path q a' b' c' k e f =
    rw add-one (record {
      here = f ∙ ap (λ (x : Weights). (lower x).rest) k.here;
      digits = omega (arith, k.digits, e ∙ ap (λ (x : Weights). digit_no (lower x).digit) k.here);
    })
