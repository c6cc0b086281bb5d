-- The finest cells inside a cell are those at the places of its interval: the digits of such a place are those of the cell,
-- and then those of the place's distance from the cell's own.
-- Assumes nothing.
use mathlib.Core.List.{List, [], ◌∷◌, ◌++◌}
use mathlib.Core.Path.{◌≡◌, ap, ap₂, sym, ◌∙◌, subst}
use Prim.Native.Nat.{ℕ, zero, suc, ◌+◌, ◌-◌, ◌*◌, ◌/◌, ◌%◌, ◌^◌, ◌<◌, ◌≤◌}
use native.Mathlib.Nat.{pow-suc, div-add-mod', div-one, mul-le-mul_right, suc-add}
use native.Mathlib.Omega.{arith}
use lib.ListN.{length, length-append}
use Rattle.solids.specs.Solids.{solid_no, solid_of}
use Rattle.solids.proofs.Numbers.{solid_no-solid_of}
use Rattle.geometry.specs.Corners.{Digit}
use Rattle.geometry.specs.Paths.{number, digits}
use Rattle.geometry.specs.Cells.{Cell, cell}
use Rattle.geometry.proofs.Paths.{number<, number-digits}
use Rattle.codes.specs.Codes.{solid, face, path, depth, size, IsCode, cell_of, Within}
use Rattle.codes.specs.Places.{place, past, code_at}
use Rattle.codes.proofs.Sizes.{size_full}
use Rattle.codes.proofs.Codes.{digits_fit, depth_of-cell_of}

-- digits of a number in two parts
digits_split : (m n a r : ℕ) → r < 4 ^ m → digits (m + n) (a * 4 ^ m + r) ≡ digits m r ++ digits n a
unfolding digits
digits_split zero n a r h =
    let e : a * 4 ^ 0 + r ≡ a = omega arith in
    let k : 0 + n ≡ n = omega arith in
    rw (k, e)
digits_split (suc m) n a r h =
    let p : a * 4 ^ suc m ≡ a * (4 ^ m * 4) = ap (λ (k : ℕ). a * k) (pow-suc 4 m) in
    let u : (a * 4 ^ suc m + r) % 4 ≡ r % 4 = omega arith in
    let v : (a * 4 ^ suc m + r) / 4 ≡ a * 4 ^ m + r / 4 = omega arith in
    let l : r / 4 < 4 ^ m = omega (arith, pow-suc 4 m) in
    rw (suc-add m n, u, v, digits_split m n a (r / 4) l)

number_append : (es ds : List Digit) → number (es ++ ds) ≡ number es + 4 ^ length es * number ds
unfolding number
number_append [] ds = omega arith
number_append (e ∷ es) ds =
    omega (arith, number_append es ds, ap (λ (k : ℕ). k * number ds) (pow-suc 4 (length es)))

module _ (x g : ℕ) (c : IsCode x) where
  -- the path of a cell, and its interval, end within the face
  room : path x + size (depth x) ≤ 2 ^ 52
  room =
      let s : ℕ = size (depth x) in
      let q : ℕ = path x / s in
      let e : q * s ≡ path x = omega (arith, div-add-mod' (path x) s, c.tail.1) in
      let l : suc q * s ≤ 4 ^ depth x * s = mul-le-mul_right s (digits_fit (path x) (depth x) c.deep c.tail.0) in
      omega (arith, size_full (depth x) c.deep)

  pub place_within : place x ≤ g → g < past x → Within x (code_at g 26)
  unfolding cell_of size
  place_within h k =
      let d : ℕ = depth x in
      let y : ℕ = code_at g 26 in
      let r : ℕ = g - place x in
      let q : ℕ = path x / size d in
      let l : r < size d = omega arith in
      let i : solid y ≡ solid x = omega (arith, room) in
      let j : face y ≡ face x = omega (arith, room) in
      let p : path y ≡ q * size d + r = omega (arith, room, div-add-mod' (path x) (size d), c.tail.1) in
      let n : 26 ≡ (26 - d) + d = omega (arith, c.deep) in
      let w : depth y ≡ 26 = omega arith in
      let t : digits 26 (path y / size 26) ≡ digits (26 - d) r ++ digits d q =
      ap (digits 26) (div-one (path y) ∙ p) ∙ ap (λ (m : ℕ). digits m (q * size d + r)) n ∙ digits_split (26 - d) d q r l in
      record {
        digits = digits (26 - d) r;
        inside =
            ap₂ (λ (s f : ℕ). cell (solid_of s) f (digits (depth y) (path y / size (depth y)))) i j
            ∙ ap (λ (m : ℕ). cell (solid_of (solid x)) (face x) (digits m (path y / size m))) w
            ∙ ap (cell (solid_of (solid x)) (face x)) t;
      }

-- the number of a code's digits
path_number : (x : ℕ) → IsCode x → number (cell_of x).path * size (depth x) ≡ path x
unfolding cell_of
path_number x c =
    let s : ℕ = size (depth x) in
    let n : number (digits (depth x) (path x / s)) ≡ path x / s = number-digits (depth x) (path x / s) (digits_fit (path x) (depth x) c.deep c.tail.0) in
    ap (λ (m : ℕ). m * s) n ∙ omega (arith, div-add-mod' (path x) s, c.tail.1)

-- a place is the face and the path of its codes
place_parts : (x : ℕ) → place x ≡ (solid x * 32 + face x) * 2 ^ 52 + path x
place_parts x = omega arith

pub within_place : (x g : ℕ) → IsCode x → IsCode (code_at g 26) → Within x (code_at g 26) → (place x ≤ g) × (g < past x)
unfolding cell_of size
within_place x g c k w =
    let y : ℕ = code_at g 26 in
    let es = w.digits in
    let ds = (cell_of x).path in
    let so : solid_of (solid y) ≡ solid_of (solid x) = ap (λ (z : Cell). z.solid) w.inside in
    let i : solid y ≡ solid x = sym (solid_no-solid_of (solid y) k.known) ∙ ap solid_no so ∙ solid_no-solid_of (solid x) c.known in
    let j : face y ≡ face x = ap (λ (z : Cell). z.face) w.inside in
    let l : (cell_of y).path ≡ es ++ ds = ap (λ (z : Cell). z.path) w.inside in
    let e : depth y ≡ 26 = omega arith in
    let n : 26 ≡ length es + depth x =
    sym e ∙ sym (depth_of-cell_of y) ∙ ap length l ∙ length-append es ds ∙ ap (λ (m : ℕ). length es + m) (depth_of-cell_of x) in
    let z : 4 ^ length es ≡ size (depth x) = let m : length es ≡ 26 - depth x = omega arith in ap (λ (m : ℕ). 4 ^ m) m in
    let u : number (cell_of y).path * 1 ≡ path y = ap (λ (m : ℕ). number (cell_of y).path * size m) (sym e) ∙ path_number y k in
    let v : number (cell_of y).path ≡ number es + 4 ^ length es * number ds = ap number l ∙ number_append es ds in
    let p : number ds * 4 ^ length es ≡ path x = ap (λ (m : ℕ). number ds * m) z ∙ path_number x c in
    let q : path y ≡ number es + path x = omega arith in
    let r : number es < size (depth x) = subst (λ (m : ℕ). number es < m) z (number< es) in
    let a : place y ≡ g = omega arith in
    let b : g ≡ place x + number es = sym a ∙ place_parts y ∙ ap₂ (λ (s f : ℕ). (s * 32 + f) * 2 ^ 52 + path y) i j ∙ omega (arith, place_parts x) in
    (omega (arith, b), omega (arith, b))
