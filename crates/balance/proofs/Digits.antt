-- The last two digits of a code are what stands before its unused places and its depth.
use mathlib.Core.Path.{◌≡◌, ap, sym, ◌∙◌}
use Prim.Native.Nat.{ℕ, ◌+◌, ◌-◌, ◌*◌, ◌/◌, ◌%◌, ◌^◌, ◌<◌, ◌≤◌}
use native.Mathlib.Nat.{div-div-eq-div-mul, div-add-mod', mul-div_cancel}
use native.Mathlib.Omega.{arith}
use Rattle.codes.specs.Codes.{depth, size}
use Rattle.codes.specs.Places.{place, code_at, parent_code, last_digit}
use Rattle.codes.proofs.Sizes.{size_pos, place_two}
use Rattle.soundness.proofs.Cells.{size_step}

pub two_digits : (x k : ℕ) → 0 < depth x → depth x ≤ 26 → k ≡ 57 - 2 * depth x → x / 2 ^ k % 16 ≡ last_digit (parent_code x) * 4 + last_digit x
unfolding parent_code last_digit
two_digits x k h l e =
    let d : ℕ = depth x - 1 in
    let s : ℕ = size (depth x) in
    let m : ℕ = place x / s in
    let p : ℕ = place x - place x % size d in
    let up : d + 1 ≡ depth x = omega arith in
    let four : size d ≡ s * 4 = size_step d (omega arith) ∙ ap (λ (n : ℕ). size n * 4) up in
    let shift : x / 2 ^ k ≡ m = ap (λ (n : ℕ). x / n) (place_two (depth x) k l e) ∙ sym (div-div-eq-div-mul x 32 s) in
    -- the parent's place and depth
    let g : place (code_at p d) ≡ p = omega arith in
    let u : depth (code_at p d) ≡ d = omega arith in
    -- its digits are those of the code but for the last
    let v : p ≡ place x / size d * size d = omega (arith, div-add-mod' (place x) (size d)) in
    let w : p / size d ≡ m / 4 =
    ap (λ (n : ℕ). n / size d) v ∙ mul-div_cancel (place x / size d) (size_pos d) ∙ ap (λ (n : ℕ). place x / n) four
    ∙ sym (div-div-eq-div-mul (place x) s 4) in
    rw (g, u, w, shift) (omega arith)
