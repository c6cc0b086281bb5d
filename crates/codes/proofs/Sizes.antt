-- Place values in a path of 26 digits.
-- Assumes nothing.
use mathlib.Core.Path.{◌≡◌, ap, sym, ◌∙◌}
use Prim.Native.Nat.{ℕ, suc, ◌+◌, ◌-◌, ◌*◌, ◌^◌, ◌<◌, ◌≤◌}
use native.Mathlib.Nat.{pow-suc, one-le-pow}
use native.Mathlib.Omega.{arith}
use lib.Pow.{pow-add}
use Rattle.geometry.proofs.Paths.{four}
use Rattle.codes.specs.Codes.{size}

pub size_pos : (d : ℕ) → 0 < size d
unfolding size
size_pos d = one-le-pow (26 - d) 4 (omega arith)

-- d digits, and the places after them
pub size_full : (d : ℕ) → d ≤ 26 → 4 ^ d * size d ≡ 2 ^ 52
unfolding size
size_full d h =
    let e : 26 ≡ d + (26 - d) = omega arith in
    sym (ap (λ (k : ℕ). 4 ^ k) e ∙ pow-add 4 d (26 - d))

pub size_suc : (d : ℕ) → d < 26 → size d ≡ size (suc d) * 4
unfolding size
size_suc d h = let e : 26 - d ≡ suc (26 - suc d) = omega arith in rw (e, pow-suc)

-- as a shift of the path, and of the code
pub size_two : (d : ℕ) → d ≤ 26 → size d ≡ 2 ^ (52 - 2 * d)
unfolding size
size_two d h = let e : 2 * (26 - d) ≡ 52 - 2 * d = omega arith in four (26 - d) ∙ ap (λ (k : ℕ). 2 ^ k) e

pub place_two : (d k : ℕ) → d ≤ 26 → k ≡ 57 - 2 * d → 2 ^ k ≡ 32 * size d
place_two d k h e =
    let i : k ≡ 5 + (52 - 2 * d) = omega arith in
    ap (λ (m : ℕ). 2 ^ m) i ∙ pow-add 2 5 (52 - 2 * d) ∙ sym (ap (λ (m : ℕ). 32 * m) (size_two d h))
