-- Codes by place and depth, and by cell: both views say the same of well-formedness, children, parents and the last digit.
-- Assumes nothing.
use mathlib.Core.Path.{◌≡◌, ap, sym, ◌∙◌, subst}
use Prim.Native.Nat.{ℕ, suc, ◌+◌, ◌-◌, ◌*◌, ◌/◌, ◌%◌, ◌^◌, ◌<◌, ◌≤◌}
use native.Mathlib.Nat.{mul-add-mod_self_right, mul_assoc, div-div-eq-div-mul, mod-eq-sub-div-mul, div-mul-le_self, div-add-mod'}
use native.Mathlib.Numerals.{add-one}
use native.Mathlib.Omega.{arith}
use lib.Arith.{digits_div}
use Rattle.solids.specs.Solids.{solid_of}
use Rattle.solids.proofs.Numbers.{faces_few}
use Rattle.geometry.specs.Corners.{Digit}
use Rattle.geometry.specs.Paths.{digit_no, digit_of}
use Rattle.geometry.specs.Cells.{Cell, depth_of, parent, child}
use Rattle.geometry.proofs.Paths.{digit_no-digit_of}
use Rattle.codes.specs.Codes.{solid, path, depth, size, IsCode, cell_of, code_of}
use Rattle.codes.specs.Places.{place, code_at, CodeOn, child_code, parent_code, last_digit}
use Rattle.codes.proofs.Sizes.{size_pos, size_full, size_suc}
use Rattle.codes.proofs.Codes.{code_formed, cell_of-code_of, code_of-cell_of, cell_formed, depth_of-cell_of}
use Rattle.codes.proofs.Family.{code_of-child, code_cut}

-- the places after the last digit, with the face and without
tail_same : (x : ℕ) → depth x ≤ 26 → place x % size (depth x) ≡ path x % size (depth x)
tail_same x h =
    let s : ℕ = size (depth x) in
    let g : ℕ = place x / 2 ^ 52 in
    let e : place x ≡ g * 4 ^ depth x * s + path x =
    (omega arith ∙ ap (λ (m : ℕ). g * m + path x) (sym (size_full (depth x) h))) ∙ ap (λ (m : ℕ). m + path x) (sym (mul_assoc g (4 ^ depth x) s)) in
    ap (λ (m : ℕ). m % s) e ∙ mul-add-mod_self_right (g * 4 ^ depth x) s (path x)

pub code_on_solid : (x : ℕ) → IsCode x → CodeOn (solid x) x
code_on_solid x c = record {
  known = c.known;
  from = omega arith;
  below = omega (arith, c.on);
  deep = c.deep;
  tail = tail_same x c.deep ∙ c.tail.1;
}

pub solid_is : (S x : ℕ) → CodeOn S x → solid x ≡ S
solid_is S x c = omega (arith, c.from, c.below, faces_few (solid_of S))

pub on_solid_code : (S x : ℕ) → CodeOn S x → IsCode x
on_solid_code S x c =
    let e : solid x ≡ S = solid_is S x c in
    record {
      known = rw e c.known;
      on = rw e (omega (arith, c.from, c.below, faces_few (solid_of S)));
      deep = c.deep;
      tail = (omega arith, sym (tail_same x c.deep) ∙ c.tail);
    }

pub child_place : (x : ℕ) (q : Digit) → IsCode x → depth x < 26 → code_of (child (cell_of x) q) ≡ child_code x (digit_no q)
unfolding child_code
child_place x q c h =
    let e : code_of (child (cell_of x) q) ≡ code_of (cell_of x) + digit_no q * (32 * size (suc (depth_of (cell_of x)))) + 1 =
    code_of-child (cell_of x) q (rw (depth_of-cell_of x) h) in
    (rw (code_of-cell_of x c, depth_of-cell_of x) at e) ∙ rw (add-one (depth x)) (omega arith)

pub parent_place : (x : ℕ) → IsCode x → 0 < depth x → code_of (parent (cell_of x)) ≡ parent_code x
unfolding parent_code
parent_place x c h =
    let s : ℕ = size (depth x - 1) in
    let d : x / (32 * s) ≡ place x / s = sym (div-div-eq-div-mul x 32 s) in
    sym (code_cut x c h) ∙ ap (λ (m : ℕ). m * (32 * s) + (depth x - 1)) d
    ∙ omega (arith, mod-eq-sub-div-mul (place x) s, div-mul-le_self (place x) s)

pub child_cell : (x : ℕ) (q : Digit) → IsCode x → depth x < 26 → cell_of (child_code x (digit_no q)) ≡ child (cell_of x) q
child_cell x q c h = ap cell_of (sym (child_place x q c h)) ∙ cell_of-code_of (child (cell_of x) q) (cell_formed x c) (rw (depth_of-cell_of x) h)

pub child_formed : (x q : ℕ) → IsCode x → depth x < 26 → q < 4 → IsCode (child_code x q)
child_formed x q c h l =
    subst (λ (n : ℕ). IsCode (child_code x n)) (digit_no-digit_of q l)
    (subst IsCode (child_place x (digit_of q) c h) (code_formed (child (cell_of x) (digit_of q)) (cell_formed x c) (rw (depth_of-cell_of x) h)))

pub parent_of_child : (x : ℕ) (q : Digit) → IsCode x → depth x < 26 → code_of (parent (cell_of (child_code x (digit_no q)))) ≡ x
parent_of_child x q c h = ap (λ (k : Cell). code_of (parent k)) (child_cell x q c h) ∙ code_of-cell_of x c

pub last_of_child : (x q : ℕ) → CodeOn (solid x) x → depth x < 26 → q < 4 → last_digit (child_code x q) ≡ q
unfolding child_code last_digit
last_of_child x q c h l =
    let d : ℕ = depth x in
    let s : ℕ = size (suc d) in
    let g : place (code_at (place x + q * size (d + 1)) (d + 1)) ≡ place x + q * size (d + 1) = omega arith in
    let e : depth (code_at (place x + q * size (d + 1)) (d + 1)) ≡ d + 1 = omega arith in
    let k : ℕ = place x / size d in
    let m : place x ≡ k * size d = omega (arith, div-add-mod' (place x) (size d), c.tail) in
    let v : place x + q * s ≡ (k * 4 + q) * s + 0 = omega (arith, m, ap (λ (n : ℕ). k * n) (size_suc d h)) in
    rw (g, e, add-one d) (ap (λ (n : ℕ). n / s % 4) v ∙ ap (λ (n : ℕ). n % 4) (digits_div (k * 4 + q) (size_pos (suc d))) ∙ omega arith)
