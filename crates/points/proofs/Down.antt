-- The way down: the weights in the cell reached, lifted again, are the point's; no lesser path has weights for the point.
use mathlib.Core.Bool.{Bool, true, false, cond}
use mathlib.Core.List.{List, [], ◌∷◌}
use mathlib.Core.Logic.{◌⊎◌, inl, inr}
use mathlib.Core.Path.{◌≡◌, refl, ap, sym, ◌∙◌}
use Prim.Native.Nat.{ℕ, zero, suc, ◌+◌, ◌-◌, ◌*◌, ◌^◌, ◌<◌, ◌≤◌}
use native.Mathlib.Nat.{pow-suc}
use native.Mathlib.Omega.{arith}
use borrow.Author.Tests.{leb-true, leb-false}
use lib.Dec.{leb}
use lib.ListN.{length}
use Rattle.geometry.specs.Corners.{Digit, d00, d01, d10, d11}
use Rattle.geometry.specs.Paths.{digit_no, number}
use Rattle.geometry.proofs.Paths.{digit<4, one_path}
use Rattle.points.specs.Points.{Weights, weights, sum, half, Lowered, to, lower, down, path_to}
use Rattle.points.proofs.Lifting.{lift, lift_all, weights_eq, lift_all_one}

-- one level, by the outcomes of its three tests
abbrev choice : Bool → Bool → Bool → Weights → Lowered
choice a b c w =
    cond a (to d00 (weights (w.t - half w) w.l w.r))
    (cond b (to d01 (weights w.t (w.l - half w) w.r))
    (cond c (to d10 (weights (half w - w.t) (half w - w.r) (half w - w.l)))
    (to d11 (weights w.t w.l (w.r - half w)))))

-- one level down and up again
record Level (w : Weights) (m : Lowered) : Type 0 where
  up : lift m.digit m.rest ≡ w
  total : sum m.rest ≡ half w

level : (w : Weights) → sum w ≡ half w + half w → Level w (lower w)
level w e = go (leb (half w) w.t) refl (leb (half w) w.l) refl (leb w.r (half w)) refl
  where
    go : (a : Bool) → leb (half w) w.t ≡ a → (b : Bool) → leb (half w) w.l ≡ b → (c : Bool) → leb w.r (half w) ≡ c → Level w (choice a b c w)
    go true x b y c z = let h : half w ≤ w.t = leb-true _ _ x in record { up = weights_eq (omega arith) refl refl; total = omega arith }
    go false x true y c z = let h : half w ≤ w.l = leb-true _ _ y in record { up = weights_eq refl (omega arith) refl; total = omega arith }
    go false x false y true z =
        let f : w.t < half w = leb-false _ _ x in
        let g : w.l < half w = leb-false _ _ y in
        let h : w.r ≤ half w = leb-true _ _ z in
        record { up = weights_eq (omega arith) (omega arith) (omega arith); total = omega arith }
    go false x false y false z = let h : half w < w.r = leb-false _ _ z in record { up = weights_eq refl refl (omega arith); total = omega arith }

-- the sum halves at each level, so it stays even to the last
pub down_sum : (w : Weights) → sum w ≡ 2 ^ 26 → (n : ℕ) → n ≤ 26 → sum (down w n) ≡ 2 ^ (26 - n)
unfolding down
down_sum w e zero h = e
down_sum w e (suc n) h =
    let k : 26 - n ≡ suc (26 - suc n) = omega arith in
    let i : sum (down w n) ≡ 2 ^ (26 - suc n) * 2 = down_sum w e n (omega arith) ∙ ap (λ (m : ℕ). 2 ^ m) k ∙ pow-suc 2 (26 - suc n) in
    (level (down w n) (omega arith)).total ∙ omega arith

even_down : (w : Weights) → sum w ≡ 2 ^ 26 → (n : ℕ) → n < 26 → sum (down w n) ≡ half (down w n) + half (down w n)
even_down w e n h =
    let k : 26 - n ≡ suc (26 - suc n) = omega arith in
    let i : sum (down w n) ≡ 2 ^ (26 - suc n) * 2 = down_sum w e n (omega arith) ∙ ap (λ (m : ℕ). 2 ^ m) k ∙ pow-suc 2 (26 - suc n) in
    omega arith

pub up_again : (w : Weights) → sum w ≡ 2 ^ 26 → (n : ℕ) → n ≤ 26 → lift_all (path_to w n) (down w n) ≡ w
unfolding lift_all down path_to
up_again w e zero h = refl
up_again w e (suc n) h = ap (lift_all (path_to w n)) (level (down w n) (even_down w e n h)).up ∙ up_again w e n (omega arith)

pub length-path_to : (w : Weights) (n : ℕ) → length (path_to w n) ≡ n
unfolding path_to
length-path_to w zero = refl
length-path_to w (suc n) = ap suc (length-path_to w n)

-- the digit chosen is the least whose child has weights for the point
least_digit : (e : Digit) (w : Weights) → digit_no (lower (lift e w)).digit ≤ digit_no e
least_digit e w = go e (leb (half (lift e w)) (lift e w).t) refl (leb (half (lift e w)) (lift e w).l) refl (leb (lift e w).r (half (lift e w))) refl
  where
    go : (e : Digit) (a : Bool) → leb (half (lift e w)) (lift e w).t ≡ a → (b : Bool) → leb (half (lift e w)) (lift e w).l ≡ b →
        (c : Bool) → leb (lift e w).r (half (lift e w)) ≡ c → digit_no (choice a b c (lift e w)).digit ≤ digit_no e
    go e true x b y c z = omega arith
    go d00 false x b y c z = absurd (let h : (lift d00 w).t < half (lift d00 w) = leb-false _ _ x in omega arith)
    go d01 false x true y c z = omega arith
    go d01 false x false y c z = absurd (let h : (lift d01 w).l < half (lift d01 w) = leb-false _ _ y in omega arith)
    go d10 false x true y c z = omega arith
    go d10 false x false y true z = omega arith
    go d10 false x false y false z = absurd (let h : half (lift d10 w) < (lift d10 w).r = leb-false _ _ z in omega arith)
    go d11 false x true y c z = omega arith
    go d11 false x false y true z = omega arith
    go d11 false x false y false z = omega arith

less_or_equal : (m n : ℕ) → m ≤ n → (m < n) ⊎ (m ≡ n)
less_or_equal zero zero h = inr refl
less_or_equal zero (suc n) h = inl (omega arith)
less_or_equal (suc m) zero h = absurd (omega arith)
less_or_equal (suc m) (suc n) h = go (less_or_equal m n (omega arith))
  where
    go : (m < n) ⊎ (m ≡ n) → (suc m < suc n) ⊎ (suc m ≡ suc n)
    go (inl a) = inl (omega arith)
    go (inr a) = inr (ap suc a)

-- a lesser path above stays lesser whatever the last digit; on one path the weights are one, and the digit chosen is the least
pub least_path : (w : Weights) → sum w ≡ 2 ^ 26 → (es : List Digit) → length es ≤ 26 → (q : Weights) → lift_all es q ≡ w → number (path_to w (length es)) ≤ number es
unfolding lift_all path_to number
least_path w s [] h q e = omega arith
least_path w s (d ∷ ds) h q e = go (less_or_equal (number (path_to w n)) (number ds) (least_path w s ds (omega arith) (lift d q) e))
  where
    n : ℕ
    n = length ds

    go : (number (path_to w n) < number ds) ⊎ (number (path_to w n) ≡ number ds) →
        digit_no (lower (down w n)).digit + 4 * number (path_to w n) ≤ digit_no d + 4 * number ds
    go (inl a) = omega (arith, digit<4 (lower (down w n)).digit)
    go (inr a) =
        let i : path_to w n ≡ ds = one_path (path_to w n) ds (length-path_to w n) a in
        let j : lift_all ds (down w n) ≡ w = ap (λ (l : List Digit). lift_all l (down w n)) (sym i) ∙ up_again w s n (omega arith) in
        let k : down w n ≡ lift d q = lift_all_one ds (down w n) (lift d q) (j ∙ sym e) in
        omega (arith, least_digit d q, ap (λ (m : Weights). digit_no (lower m).digit) k)
