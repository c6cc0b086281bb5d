-- The way down to a cell of a code, a level at a time.
--
--   above x n == the cell of depth n that the first n digits of the code x lead to
use mathlib.Core.Path.{◌≡◌, ap, ap₂, sym, ◌∙◌}
use Prim.Native.Nat.{ℕ, suc, ◌+◌, ◌-◌, ◌*◌, ◌/◌, ◌%◌, ◌^◌, ◌<◌, ◌≤◌}
use native.Mathlib.Nat.{div-div-eq-div-mul}
use native.Mathlib.Numerals.{add-one}
use native.Mathlib.Omega.{arith}
use lib.Pow.{pow_mono}
use Rattle.solids.specs.Triangles.{Corner}
use Rattle.solids.specs.Solids.{Solid, solid_no, solid_of, faces}
use Rattle.solids.proofs.Numbers.{solid_of-solid_no}
use Rattle.geometry.specs.Weights.{total}
use Rattle.geometry.specs.Corners.{child_corners, corners}
use Rattle.geometry.specs.Paths.{digit_of, digits}
use Rattle.geometry.specs.Cells.{Cell, cell, face_corners, corner, child}
use Rattle.geometry.proofs.Corners.{child_alike, weights_sum}
use Rattle.geometry.proofs.Paths.{length-digits}
use Rattle.codes.specs.Codes.{solid, face, path, depth, size, cell_of}
use Rattle.codes.proofs.Sizes.{size_suc, size_two}
use Rattle.corners.specs.declared.Corners.{Corners}
use Rattle.corners.specs.Arrays.{at, AreCorners}

abbrev pub above : ℕ → ℕ → Cell
above x n = cell (solid_of (solid x)) (face x) (digits n (path x / size n))

-- at the top the face, at the bottom the cell

pub top : (x : ℕ) (so : Solid) (f : ℕ) (a : Corners) → solid_no so ≡ solid x → f ≡ face x → AreCorners a (face_corners so f) →
    AreCorners a (corner (above x 0))
unfolding digits corners
top x so f a d e h p =
    let i : so ≡ solid_of (solid x) = sym (solid_of-solid_no so) ∙ ap (λ (s : ℕ). solid_of s) d in
    h p ∙ ap₂ (λ (so : Solid) (f : ℕ). face_corners so f p) i e

pub bottom : (x n : ℕ) (a : Corners) → n ≡ depth x → AreCorners a (corner (above x n)) → AreCorners a (corner (cell_of x))
unfolding cell_of
bottom x n a e h p = h p ∙ ap (λ (n : ℕ). corner (above x n) p) e

-- "Weights at depth d sum to 2^d": far below what a number can hold
pub light : (x n : ℕ) → face x < faces (solid_of (solid x)) → n ≤ 26 → (p : Corner) → total (corner (above x n) p) < 2 ^ 63
light x n c h p =
    omega (arith, weights_sum (above x n) c p, ap (λ (k : ℕ). 2 ^ k) (length-digits n (path x / size n)), pow_mono h)

-- one level down: the next digit leads to a child
above_more : (x n : ℕ) → n < 26 → above x (n + 1) ≡ child (above x n) (digit_of (path x / size (n + 1) % 4))
unfolding digits
above_more x n h =
    let e : path x / size (suc n) / 4 ≡ path x / size n =
    div-div-eq-div-mul (path x) (size (suc n)) 4 ∙ ap (λ (s : ℕ). path x / s) (sym (size_suc n h)) in
    rw (add-one n, e)

pub lower : (x n w : ℕ) (a b : Corners) → n < 26 → w ≡ path x → AreCorners a (corner (above x n)) →
    AreCorners b (child_corners (digit_of (w / 2 ^ (50 - 2 * n) % 4)) (at a)) → AreCorners b (corner (above x (n + 1)))
unfolding corners
lower x n w a b h e k l p =
    let q : ℕ = w / 2 ^ (50 - 2 * n) % 4 in
    let o : 50 - 2 * n ≡ 52 - 2 * (n + 1) = omega arith in
    let i : q ≡ path x / size (n + 1) % 4 =
    ap₂ (λ (m s : ℕ). m / s % 4) e (ap (λ (m : ℕ). 2 ^ m) o ∙ sym (size_two (n + 1) (omega arith))) in
    l p ∙ child_alike (digit_of q) (at a) (corner (above x n)) k p
    ∙ ap (λ (m : ℕ). child_corners (digit_of m) (corner (above x n)) p) i
    ∙ ap (λ (c : Cell). corner c p) (sym (above_more x n h))
