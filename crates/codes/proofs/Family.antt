-- Parent and child of a code, by its number and by shifts.
use mathlib.Core.List.{List, [], ◌∷◌}
use mathlib.Core.Path.{◌≡◌, refl, ap, sym, ◌∙◌}
use Prim.Native.Nat.{ℕ, suc, ◌+◌, ◌-◌, ◌*◌, ◌/◌, ◌%◌, ◌^◌, ◌<◌, ◌≤◌}
use native.Mathlib.Nat.{mul-le-mul_right, mod-eq_of_lt, div-mul-le_self}
use native.Mathlib.Omega.{arith}
use lib.Arith.{digits_div}
use lib.Bits.{bit_or, or_shifted}
use lib.ListN.{length}
use lib.Pow.{shl_exact}
use Rattle.solids.specs.Solids.{solid_no}
use Rattle.geometry.specs.Corners.{Digit}
use Rattle.geometry.specs.Paths.{digit_no, number}
use Rattle.geometry.specs.Cells.{Cell, cell, depth_of, parent_path, parent, child}
use Rattle.geometry.proofs.Paths.{digit<4}
use Rattle.codes.specs.Codes.{depth, size, IsCode, cell_of, code_of}
use Rattle.codes.proofs.Sizes.{size_pos, size_full, size_suc, place_two}
use Rattle.codes.proofs.Codes.{code_small, code_formed, code_of-cell_of, cell_formed, depth_of-cell_of}

-- a child's code
pub code_of-child : (c : Cell) (q : Digit) → depth_of c < 26 → code_of (child c q) ≡ code_of c + digit_no q * (32 * size (suc (depth_of c))) + 1
unfolding code_of number
code_of-child c q h = omega (arith, ap (λ (m : ℕ). number c.path * m) (size_suc (depth_of c) h))

-- the last digit and the depth cut off, in plain numbers
cut : (g v q s t p n : ℕ) → s ≡ t * 4 → p * s ≡ 2 ^ 52 → 0 < t → q < 4 → n < 26 →
    (g * 2 ^ 57 + ((q + 4 * v) * t) * 32 + suc n) / (32 * s) * (32 * s) ≡ g * 2 ^ 57 + v * s * 32
cut g v q s t p n e f h i j =
    let r : ℕ = q * t * 32 + suc n in
    let a : g * 2 ^ 57 + ((q + 4 * v) * t) * 32 + suc n ≡ (g * p + v) * (32 * s) + r =
    omega (arith, ap (λ (m : ℕ). g * m) f, ap (λ (m : ℕ). v * m) e) in
    let l : q * t ≤ 3 * t = mul-le-mul_right t (omega arith) in
    let b : r < 32 * s = omega arith in
    ap (λ (m : ℕ). m / (32 * s) * (32 * s)) a ∙ ap (λ (m : ℕ). m * (32 * s)) (digits_div (g * p + v) b)
    ∙ omega (arith, ap (λ (m : ℕ). g * m) f)

child_cut : (c : Cell) (q : Digit) → depth_of c < 26 →
    code_of (child c q) / (32 * size (depth_of c)) * (32 * size (depth_of c)) + depth_of c ≡ code_of c
unfolding code_of number
child_cut c q h =
    let n : ℕ = depth_of c in
    let s : ℕ = solid_no c.solid in
    let e : s * 2 ^ 62 + c.face * 2 ^ 57 ≡ (s * 32 + c.face) * 2 ^ 57 = omega arith in
    let d = cut (s * 32 + c.face) (number c.path) (digit_no q) (size n) (size (suc n)) (4 ^ n) n (size_suc n h) (size_full n (omega arith)) (size_pos (suc n)) (digit<4 q) h in
    rw e (omega (arith, d))

-- a cell below a face is the child of its parent by its last digit
pub record Born (c : Cell) : Type 0 where
  pub digit : Digit
  pub is : c ≡ child (parent c) digit

pub born : (c : Cell) → 0 < depth_of c → Born c
born c h = go c.path refl
  where
    go : (ds : List Digit) → c.path ≡ ds → Born c
    go [] e = absurd (let z : depth_of c ≡ 0 = ap length e in omega arith)
    go (q ∷ ds) e =
        let i : c ≡ cell c.solid c.face (q ∷ ds) = ap (λ (l : List Digit). cell c.solid c.face l) e in
        record { digit = q; is = i ∙ sym (ap (λ (k : Cell). child (parent k) q) i) }

cell_cut : (c : Cell) → depth_of c ≤ 26 → 0 < depth_of c →
    code_of c / (32 * size (depth_of c - 1)) * (32 * size (depth_of c - 1)) + (depth_of c - 1) ≡ code_of (parent c)
cell_cut c h k =
    let b = born c k in
    let n : depth_of c ≡ suc (depth_of (parent c)) = ap depth_of b.is in
    let j : depth_of c - 1 ≡ depth_of (parent c) = omega arith in
    rw j (ap (λ (x : Cell). code_of x / (32 * size (depth_of (parent c))) * (32 * size (depth_of (parent c))) + depth_of (parent c)) b.is
    ∙ child_cut (parent c) b.digit (omega arith))

pub code_cut : (x : ℕ) → IsCode x → 0 < depth x →
    x / (32 * size (depth x - 1)) * (32 * size (depth x - 1)) + (depth x - 1) ≡ code_of (parent (cell_of x))
code_cut x c h = rw (code_of-cell_of x c, depth_of-cell_of x) at (cell_cut (cell_of x) (rw (depth_of-cell_of x) c.deep) (rw (depth_of-cell_of x) h))

parent_depth : (c : Cell) → depth_of (parent c) ≤ depth_of c
parent_depth c = go c.path
  where
    go : (ds : List Digit) → length (parent_path ds) ≤ length ds
    go [] = omega arith
    go (d ∷ ds) = omega arith

-- by shifts: the last digit and the depth go out, the parent's depth comes in
pub parent_bits : (x d : ℕ) → IsCode x → d ≡ depth x → 0 < d →
    bit_or ((x / 2 ^ (59 - 2 * d) * 2 ^ (59 - 2 * d)) % 2 ^ 64) (d - 1) ≡ code_of (parent (cell_of x))
parent_bits x d c e h =
    let k : ℕ = 59 - 2 * d in
    let u : d ≤ 26 = omega (arith, c.deep) in
    let p : 2 ^ k ≡ 32 * size (d - 1) = place_two (d - 1) k (omega arith) (omega arith) in
    let l : x / 2 ^ k * 2 ^ k < 2 ^ 64 = omega (arith, div-mul-le_self x (2 ^ k), code_small x c) in
    let s : d - 1 < 2 ^ k = omega (arith, size_pos (d - 1)) in
    ap (λ (m : ℕ). bit_or m (d - 1)) (mod-eq_of_lt l) ∙ or_shifted (x / 2 ^ k) k (d - 1) s
    ∙ ap (λ (m : ℕ). x / m * m + (d - 1)) p ∙ rw e (code_cut x c (omega arith))

pub parent_formed : (x : ℕ) → IsCode x → 0 < depth x → IsCode (code_of (parent (cell_of x)))
parent_formed x c h =
    let l : depth_of (parent (cell_of x)) ≤ 26 = omega (arith, c.deep, depth_of-cell_of x, parent_depth (cell_of x)) in
    code_formed (parent (cell_of x)) (cell_formed x c) l

pub child_formed : (x : ℕ) (q : Digit) → IsCode x → depth x < 26 → IsCode (code_of (child (cell_of x) q))
child_formed x q c h = code_formed (child (cell_of x) q) (cell_formed x c) (rw (depth_of-cell_of x) h)

-- by shifts: the digit is put in its place, the depth is one more, and nothing wraps
pub child_bits : (x d : ℕ) (q : Digit) → IsCode x → d ≡ depth x → d < 26 →
    (x + (digit_no q * 2 ^ (55 - 2 * d)) % 2 ^ 64 + 1 ≡ code_of (child (cell_of x) q)) × (x + (digit_no q * 2 ^ (55 - 2 * d)) % 2 ^ 64 + 1 < 2 ^ 64)
child_bits x d q c e h =
    let k : ℕ = 55 - 2 * d in
    let p : 2 ^ k ≡ 32 * size (suc d) = place_two (suc d) k (omega arith) (omega arith) in
    let m : (digit_no q * 2 ^ k) % 2 ^ 64 ≡ digit_no q * 2 ^ k = shl_exact 2 k 64 (digit<4 q) (omega arith) in
    let n : depth_of (cell_of x) ≡ d = depth_of-cell_of x ∙ sym e in
    let t : code_of (child (cell_of x) q) ≡ code_of (cell_of x) + digit_no q * (32 * size (suc (depth_of (cell_of x)))) + 1 =
    code_of-child (cell_of x) q (omega arith) in
    let v : x + (digit_no q * 2 ^ k) % 2 ^ 64 + 1 ≡ code_of (child (cell_of x) q) =
    ap (λ (a : ℕ). x + a + 1) (m ∙ ap (λ (a : ℕ). digit_no q * a) p) ∙ sym (rw (code_of-cell_of x c, n) at t) in
    (v, omega (arith, v, code_small (code_of (child (cell_of x) q)) (child_formed x q c (omega arith))))
