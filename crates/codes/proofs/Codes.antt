-- Well-formed codes, and well-formed cells of depth at most 26, are one and the same.
--
--   code_formed, cell_formed         == the code of such a cell is well formed, the cell of such a code is
--   cell_of-code_of, code_of-cell_of == the cell of a cell's code is the cell, the code of a code's cell is the code
--   one_code                         == two codes of one cell are one
--
-- Assumes nothing.
use mathlib.Core.List.{List}
use mathlib.Core.Path.{◌≡◌, ap, sym, ◌∙◌, subst}
use Prim.Native.Nat.{ℕ, ◌*◌, ◌/◌, ◌^◌, ◌<◌, ◌≤◌}
use native.Mathlib.Nat.{mul-lt-mul_of_pos_right, mul-div_cancel, mul-mod_left, div-add-mod', div-lt_iff_lt-mul}
use native.Mathlib.Omega.{arith}
use lib.ListN.{length}
use Rattle.solids.specs.Solids.{solid_no, solid_of}
use Rattle.solids.proofs.Numbers.{solid_of-solid_no, solid_no-solid_of, solid_known, faces_few}
use Rattle.geometry.specs.Corners.{Digit}
use Rattle.geometry.specs.Paths.{number, digits}
use Rattle.geometry.specs.Cells.{Cell, WellFormed, depth_of}
use Rattle.geometry.proofs.Paths.{length-digits, digits-number, number-digits, number<}
use Rattle.codes.specs.Codes.{solid, face, path, depth, joined, size, Formed, IsCode, cell_of, path_bits, code_of}
use Rattle.codes.proofs.Sizes.{size_pos, size_full}

-- fields side by side are read back

pub record Back (s f p d : ℕ) : Type 0 where
  pub solid_is : solid (joined s f p d) ≡ s
  pub face_is : face (joined s f p d) ≡ f
  pub path_is : path (joined s f p d) ≡ p
  pub depth_is : depth (joined s f p d) ≡ d

pub back : (s f p d : ℕ) → s < 4 → f < 32 → p < 2 ^ 52 → d < 32 → Back s f p d
back s f p d a b c e = record { solid_is = omega arith; face_is = omega arith; path_is = omega arith; depth_is = omega arith }

pub formed_back : (s f p d : ℕ) → Formed s f p d → Back s f p d
formed_back s f p d h = back s f p d (omega (arith, h.known)) (omega (arith, h.on, faces_few (solid_of s))) h.tail.0 (omega (arith, h.deep))

pub whole : (x : ℕ) → joined (solid x) (face x) (path x) (depth x) ≡ x
whole x = omega arith

pub code_small : (x : ℕ) → IsCode x → x < 2 ^ 64
code_small x c = omega (arith, c.known)

-- from cells to codes

pub path_fits : (ds : List Digit) → length ds ≤ 26 → path_bits ds < 2 ^ 52
path_fits ds h =
    subst (λ (m : ℕ). path_bits ds < m) (size_full (length ds) h) (mul-lt-mul_of_pos_right (number< ds) (size_pos (length ds)))

cell_fields : (c : Cell) → WellFormed c → depth_of c ≤ 26 → Formed (solid_no c.solid) c.face (path_bits c.path) (depth_of c)
cell_fields c w h = record {
  known = solid_known c.solid;
  on = rw (solid_of-solid_no c.solid) w;
  deep = h;
  tail = (path_fits c.path h, mul-mod_left (number c.path) (size (depth_of c)));
}

-- the fields of a cell's code
pub cell_back : (c : Cell) → WellFormed c → depth_of c ≤ 26 → Back (solid_no c.solid) c.face (path_bits c.path) (depth_of c)
cell_back c w h = formed_back (solid_no c.solid) c.face (path_bits c.path) (depth_of c) (cell_fields c w h)

pub code_formed : (c : Cell) → WellFormed c → depth_of c ≤ 26 → IsCode (code_of c)
unfolding code_of
code_formed c w h =
    let b = cell_back c w h in
    rw (b.solid_is, b.face_is, b.path_is, b.depth_is) (cell_fields c w h)

pub cell_of-code_of : (c : Cell) → WellFormed c → depth_of c ≤ 26 → cell_of (code_of c) ≡ c
unfolding code_of cell_of
cell_of-code_of c w h =
    let b = cell_back c w h in
    let q : path_bits c.path / size (depth_of c) ≡ number c.path = mul-div_cancel (number c.path) (size_pos (depth_of c)) in
    rw (b.solid_is, b.face_is, b.path_is, b.depth_is, solid_of-solid_no c.solid, q, digits-number c.path)

-- from codes to cells

pub cell_formed : (x : ℕ) → IsCode x → WellFormed (cell_of x)
unfolding cell_of
cell_formed x c = c.on

pub depth_of-cell_of : (x : ℕ) → depth_of (cell_of x) ≡ depth x
unfolding cell_of
depth_of-cell_of x = length-digits (depth x) (path x / size (depth x))

pub cell_deep : (x : ℕ) → IsCode x → depth_of (cell_of x) ≤ 26
cell_deep x c = rw (depth_of-cell_of x) c.deep

pub digits_fit : (p d : ℕ) → d ≤ 26 → p < 2 ^ 52 → p / size d < 4 ^ d
digits_fit p d h l = (div-lt_iff_lt-mul (size_pos d)).1 (subst (λ (m : ℕ). p < m) (sym (size_full d h)) l)

pub code_of-cell_of : (x : ℕ) → IsCode x → code_of (cell_of x) ≡ x
unfolding code_of cell_of
code_of-cell_of x c =
    let p : ℕ = path x in
    let d : ℕ = depth x in
    let n : number (digits d (p / size d)) ≡ p / size d = number-digits d (p / size d) (digits_fit p d c.deep c.tail.0) in
    let m : p / size d * size d ≡ p = omega (arith, div-add-mod' p (size d), c.tail.1) in
    rw (length-digits d (p / size d), n, m, solid_no-solid_of (solid x) c.known) (whole x)

pub one_code : (x y : ℕ) → IsCode x → IsCode y → cell_of x ≡ cell_of y → x ≡ y
one_code x y a b e = sym (code_of-cell_of x a) ∙ ap code_of e ∙ code_of-cell_of y b
