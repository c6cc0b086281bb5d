-- Cells as intervals of places. Two cells are nested or apart, a cell lies in one face, its children fill it.
--
--   nested_or_apart, common == a cell lies in a larger one or apart from it; with a place in common it lies in it
--   face_same, past_end     == a cell lies in one face of its solid
--   inq_in, inq_out, inq_or == so its places are in a set of faces together or not at all, which is decided
--   in_same, in_depth       == inside at one depth is the same, inside is as deep or deeper
--   child_in, child_cell    == a child is a code of the solid, and lies inside
--   in_child, in_kid        == a place in a cell, or a cell strictly inside it, lies in a child
--   as_kid                  == a cell below a face is the child of its parent of its last digit
--   in_range, range_in      == inside is a range of codes
--
-- Assumes nothing.
use mathlib.Core.Logic.{◌⊎◌, inl, inr, ⊎_elim}
use mathlib.Core.Path.{◌≡◌, refl, sym, ◌∙◌, ap, subst}
use Prim.Native.Nat.{ℕ, suc, ◌+◌, ◌-◌, ◌*◌, ◌/◌, ◌%◌, ◌^◌, ◌<◌, ◌≤◌}
use native.Mathlib.Decide.{ℕ_discrete, dec_le}
use native.Mathlib.Nat.{one-le-pow, mul-le-mul_left, mul-le-mul_right, div-add-mod, mod-lt}
use native.Mathlib.Numerals.{add-one}
use native.Mathlib.Omega.{arith}
use lib.Pow.{pow-add}
use Rattle.solids.specs.Solids.{solid_of}
use Rattle.solids.proofs.Numbers.{faces_few}
use Rattle.geometry.specs.Paths.{digit_no, digit_of}
use Rattle.geometry.specs.Cells.{Cell, depth_of, parent, child}
use Rattle.geometry.proofs.Paths.{digit<4, digit_no-digit_of}
use Rattle.codes.specs.Codes.{solid, depth, size, IsCode, cell_of, code_of}
use Rattle.codes.specs.Places.{place, past, end, CodeOn, child_code, parent_code, last_digit}
use Rattle.codes.proofs.Sizes.{size_pos, size_full, size_suc}
use Rattle.codes.proofs.Codes.{cell_of-code_of, code_of-cell_of, cell_formed, code_formed, depth_of-cell_of}
use Rattle.codes.proofs.Family.{born}
use Rattle.codes.proofs.Places.{code_on_solid, on_solid_code, child_place, parent_place, child_formed, parent_of_child, last_of_child}
use Rattle.soundness.specs.Regions.{face_at, InFaces}
use Rattle.soundness.specs.Leaves.{Holds, In, Apart}

pub le_or_lt : (m k : ℕ) → (m ≤ k) ⊎ (k < m)
le_or_lt m k = go (dec_le m k)
  where
    go : Dec (m ≤ k) → (m ≤ k) ⊎ (k < m)
    go (yes h) = inl h
    go (no h) = inr (omega arith)

pub eq_or_not : (m k : ℕ) → (m ≡ k) ⊎ (m ≡ k → ⊥)
eq_or_not m k = go (ℕ_discrete m k)
  where
    go : Dec (m ≡ k) → (m ≡ k) ⊎ (m ≡ k → ⊥)
    go (yes h) = inl h
    go (no h) = inr h

pub same_code : (x y : ℕ) → place x ≡ place y → depth x ≡ depth y → x ≡ y
same_code x y p d = omega arith

-- sizes

pub size_step : (d : ℕ) → d < 26 → size d ≡ size (d + 1) * 4
size_step d h = rw (add-one d) (size_suc d h)

size_split : (d e : ℕ) → d ≤ e → e ≤ 26 → size d ≡ size e * 4 ^ (e - d)
unfolding size
size_split d e h h' =
    let k : 26 - d ≡ 26 - e + (e - d) = omega arith in
    ap (λ (n : ℕ). 4 ^ n) k ∙ pow-add 4 (26 - e) (e - d)

pub size_26 : size 26 ≡ 1
unfolding size
size_26 = refl

pub size_0 : size 0 ≡ 2 ^ 52
unfolding size
size_0 = refl

-- smaller sizes are of greater depths
size_lt : (d e : ℕ) → d < e → e ≤ 26 → size e < size d
size_lt d e h h' =
    let f : size d ≡ size (d + 1) * 4 = size_step d (omega arith) in
    let g : size (d + 1) ≡ size e * 4 ^ (e - (d + 1)) = size_split (d + 1) e (omega arith) h' in
    let k : size e * 1 ≤ size e * 4 ^ (e - (d + 1)) = mul-le-mul_left (size e) (one-le-pow (e - (d + 1)) 4 (omega arith)) in
    omega (arith, size_pos e)

-- nested or apart

-- in plain numbers: a block of s at a multiple of s, and a block of s * k at a multiple of s * k
blocks : (s k m n : ℕ) →
    ((s * (k * n) ≤ s * m) × (s * m + s ≤ s * (k * n) + s * k)) ⊎ ((s * m + s ≤ s * (k * n)) ⊎ (s * (k * n) + s * k ≤ s * m))
blocks s k m n =
    ⊎_elim
    (λ low. ⊎_elim
    (λ high. inr (inr (omega (arith, mul-le-mul_left s high))))
    (λ (high : m < k * n + k).
    let h : suc m ≤ k * n + k = high in
    inl (mul-le-mul_left s low, omega (arith, mul-le-mul_left s h)))
    (le_or_lt (k * n + k) m))
    (λ (high : m < k * n).
    let h : suc m ≤ k * n = high in
    inr (inl (omega (arith, mul-le-mul_left s h))))
    (le_or_lt (k * n) m)

quot : (p s : ℕ) → p % s ≡ 0 → p ≡ s * (p / s)
quot p s h = omega (arith, div-add-mod p s)

pub nested_or_apart : {S S' : ℕ} (a b : ℕ) → CodeOn S a → CodeOn S' b → depth b ≤ depth a → In a b ⊎ Apart a b
nested_or_apart a b ca cb d =
    let s = size (depth a) in
    let k = 4 ^ (depth a - depth b) in
    let m = place a / s in
    let n = place b / size (depth b) in
    let e : size (depth b) ≡ s * k = size_split (depth b) (depth a) d ca.deep in
    let pa : place a ≡ s * m = quot (place a) s ca.tail in
    let pb : place b ≡ s * k * n = quot (place b) (size (depth b)) cb.tail ∙ ap (λ (t : ℕ). t * n) e in
    ⊎_elim
    (λ h. inl (omega (arith, h.0), omega (arith, h.1)))
    (λ h. inr (⊎_elim (λ l. inl (omega arith)) (λ l. inr (omega arith)) h))
    (blocks s k m n)

pub common : {S S' : ℕ} (a b g : ℕ) → CodeOn S a → CodeOn S' b → depth b ≤ depth a → Holds a g → Holds b g → In a b
common a b g ca cb d ha hb =
    ⊎_elim (λ h. h) (λ h. absurd (⊎_elim (λ l. omega arith) (λ l. omega arith) h)) (nested_or_apart a b ca cb d)

-- a cell lies in one face

face_block : {S : ℕ} (c : ℕ) → CodeOn S c → past c ≤ place c / 2 ^ 52 * 2 ^ 52 + 2 ^ 52
face_block c w =
    let s = size (depth c) in
    let k = 4 ^ depth c in
    let m = place c / s in
    let n = place c / 2 ^ 52 in
    let e : 2 ^ 52 ≡ k * s = sym (size_full (depth c) w.deep) in
    let f : 2 ^ 52 * n ≡ k * s * n = ap (λ (t : ℕ). t * n) e in
    let pc : place c ≡ s * m = quot (place c) s w.tail in
    let z : 0 < s = size_pos (depth c) in
    ⊎_elim (λ h. omega (arith, h.1)) (λ h. absurd (⊎_elim (λ l. omega arith) (λ l. omega arith) h)) (blocks s k m n)

pub face_same : {S : ℕ} (c g : ℕ) → CodeOn S c → Holds c g → g / 2 ^ 52 ≡ place c / 2 ^ 52
face_same c g w h = omega (arith, face_block c w)

pub past_end : {S : ℕ} (c : ℕ) → CodeOn S c → past c ≤ end S
past_end c w = omega (arith, face_block c w)

pub inq_in : {S : ℕ} (Q c g : ℕ) → CodeOn S c → Holds c g → InFaces Q (place c) → InFaces Q g
unfolding InFaces
inq_in Q c g w h i = subst (λ (n : ℕ). Q / 2 ^ (n % 32) % 2 ≡ 1) (sym (face_same c g w h)) i

pub inq_out : {S : ℕ} (Q c g : ℕ) → CodeOn S c → Holds c g → InFaces Q g → InFaces Q (place c)
unfolding InFaces
inq_out Q c g w h i = subst (λ (n : ℕ). Q / 2 ^ (n % 32) % 2 ≡ 1) (face_same c g w h) i

pub inq_or : (Q g : ℕ) → InFaces Q g ⊎ (InFaces Q g → ⊥)
unfolding InFaces
inq_or Q g = eq_or_not (Q / 2 ^ face_at g % 2) 1

-- inside and apart

pub holds_place : (c : ℕ) → Holds c (place c)
holds_place c = (omega arith, omega (arith, size_pos (depth c)))

pub in_holds : (x c g : ℕ) → In x c → Holds x g → Holds c g
in_holds x c g i h = (omega arith, omega arith)

pub in_place : (x c : ℕ) → In x c → Holds c (place x)
in_place x c i = in_holds x c (place x) i (holds_place x)

pub in_trans : (x y z : ℕ) → In x y → In y z → In x z
in_trans x y z h k = (omega arith, omega arith)

pub apart_holds : (a b g : ℕ) → Apart a b → Holds a g → Holds b g → ⊥
apart_holds a b g (inl l) h k = omega arith
apart_holds a b g (inr l) h k = omega arith

-- two cells around one
pub both_around : {S S' : ℕ} (x a b : ℕ) → CodeOn S a → CodeOn S' b → depth b ≤ depth a → In x a → In x b → In a b
both_around x a b ca cb d i j = common a b (place x) ca cb d (in_place x a i) (in_place x b j)

pub in_depth : {S S' : ℕ} (x c : ℕ) → CodeOn S x → CodeOn S' c → In x c → depth c ≤ depth x
in_depth x c wx wc i =
    ⊎_elim (λ h. h) (λ h. absurd (omega (arith, size_lt (depth x) (depth c) h wc.deep))) (le_or_lt (depth c) (depth x))

pub in_same : (x c : ℕ) → In x c → depth x ≡ depth c → x ≡ c
in_same x c i d =
    let e : size (depth x) ≡ size (depth c) = ap size d in
    same_code x c (omega arith) d

-- children

pub depth_child : (c q : ℕ) → depth c < 26 → depth (child_code c q) ≡ depth c + 1
unfolding child_code
depth_child c q h = omega arith

pub place_child : (c q : ℕ) → depth c < 26 → place (child_code c q) ≡ place c + q * size (depth c + 1)
unfolding child_code
place_child c q h = omega arith

pub size_child : (c q : ℕ) → depth c < 26 → size (depth (child_code c q)) ≡ size (depth c + 1)
size_child c q h = ap size (depth_child c q h)

pub child_in : (c q : ℕ) → depth c < 26 → q < 4 → In (child_code c q) c
child_in c q h l =
    let t = size (depth c + 1) in
    let m : suc q * t ≤ 4 * t = mul-le-mul_right t l in
    (omega (arith, place_child c q h), omega (arith, place_child c q h, size_child c q h, size_step (depth c) h))

pub child_cell : {S : ℕ} (c q : ℕ) → CodeOn S c → depth c < 26 → q < 4 → CodeOn S (child_code c q)
child_cell {S} c q w h l =
    let i = child_in c q h l in
    let k = code_on_solid (child_code c q) (child_formed c q (on_solid_code S c w) h l) in
    record {
      known = w.known;
      from = omega (arith, w.from);
      below = omega (arith, size_pos (depth (child_code c q)), past_end c w);
      deep = k.deep;
      tail = k.tail;
    }

-- a digit with P
pub record DigitWith (P : ℕ → Type 0) : Type 0 where
  pub digit : ℕ
  pub four : digit < 4
  pub is : P digit

pub in_child : (c g : ℕ) → depth c < 26 → Holds c g → DigitWith (λ (q : ℕ). Holds (child_code c q) g)
in_child c g h k =
    let t = size (depth c + 1) in
    let z : 0 < t = size_pos (depth c + 1) in
    let r = g - place c in
    let q = r / t in
    let e : t * q + r % t ≡ r = div-add-mod r t in
    let b : r % t < t = mod-lt r z in
    let f : size (depth c) ≡ t * 4 = size_step (depth c) h in
    let l : q < 4 = ⊎_elim (λ u. absurd (omega (arith, mul-le-mul_left t u))) (λ u. u) (le_or_lt 4 q) in
    record { digit = q; four = l; is = (omega (arith, place_child c q h), omega (arith, place_child c q h, size_child c q h)) }

pub in_kid : {S : ℕ} (x c : ℕ) → CodeOn S x → CodeOn S c → In x c → (x ≡ c → ⊥) → (depth c < depth x) × DigitWith (λ (q : ℕ). In x (child_code c q))
in_kid x c wx wc i ne =
    let le : depth c ≤ depth x = in_depth x c wx wc i in
    let lt : depth c < depth x = ⊎_elim (λ h. absurd (ne (in_same x c i (omega arith)))) (λ h. h) (le_or_lt (depth x) (depth c)) in
    let d : depth c < 26 = omega (arith, wx.deep) in
    let k = in_child c (place x) d (in_holds x c (place x) i (holds_place x)) in
    let v = child_cell c k.digit wc d k.four in
    let in_it = common x (child_code c k.digit) (place x) wx v (omega (arith, depth_child c k.digit d)) (holds_place x) k.is in
    (lt, record { digit = k.digit; four = k.four; is = in_it })

-- the parent of a child, and a cell as a child

pub parent_child : {S : ℕ} (c q : ℕ) → CodeOn S c → depth c < 26 → q < 4 → parent_code (child_code c q) ≡ c
parent_child {S} c q w h l =
    let k = on_solid_code S c w in
    sym (parent_place (child_code c q) (child_formed c q k h l) (omega (arith, depth_child c q h)))
    ∙ ap (λ (n : ℕ). code_of (parent (cell_of (child_code c n)))) (sym (digit_no-digit_of q l)) ∙ parent_of_child c (digit_of q) k h

pub last_child : {S : ℕ} (c q : ℕ) → CodeOn S c → depth c < 26 → q < 4 → last_digit (child_code c q) ≡ q
last_child {S} c q w h l = last_of_child c q (code_on_solid c (on_solid_code S c w)) h l

pub record Kid (S x : ℕ) : Type 0 where
  pub cell : CodeOn S (parent_code x)
  pub up : depth (parent_code x) + 1 ≡ depth x
  pub four : last_digit x < 4
  pub is : x ≡ child_code (parent_code x) (last_digit x)
  pub inside : In x (parent_code x)

pub as_kid : {S : ℕ} (x : ℕ) → CodeOn S x → 0 < depth x → Kid S x
as_kid {S} x w h =
    let k = on_solid_code S x w in
    let p = parent_code x in
    let b = born (cell_of x) (rw (depth_of-cell_of x) h) in
    let q = digit_no b.digit in
    let l : q < 4 = digit<4 b.digit in
    -- the parent's code
    let n : depth_of (cell_of x) ≡ suc (depth_of (parent (cell_of x))) = ap depth_of b.is in
    let d : depth_of (parent (cell_of x)) < 26 = omega (arith, depth_of-cell_of x, w.deep) in
    let e : code_of (parent (cell_of x)) ≡ p = parent_place x k h in
    let f : IsCode p = subst IsCode e (code_formed (parent (cell_of x)) (cell_formed x k) (omega arith)) in
    let c : cell_of p ≡ parent (cell_of x) = ap cell_of (sym e) ∙ cell_of-code_of (parent (cell_of x)) (cell_formed x k) (omega arith) in
    let u : depth p ≡ depth_of (parent (cell_of x)) = sym (depth_of-cell_of p) ∙ ap depth_of c in
    let deep : depth p < 26 = omega arith in
    -- its child of the digit
    let is : x ≡ child_code p q =
    sym (code_of-cell_of x k) ∙ ap code_of b.is ∙ ap (λ (y : Cell). code_of (child y b.digit)) (sym c) ∙ child_place p b.digit f deep in
    let last : last_digit x ≡ q = ap last_digit is ∙ last_of_child p q (code_on_solid p f) deep l in
    let inside : In x p = subst (λ (y : ℕ). In y p) (sym is) (child_in p q deep l) in
    -- of the same solid
    let v = code_on_solid p f in
    let same : solid p ≡ S = omega (arith, past_end p v, size_pos (depth x), w.from, w.below, faces_few (solid_of S), faces_few (solid_of (solid p))) in
    record {
      cell = subst (λ (m : ℕ). CodeOn m p) same v;
      up = omega (arith, depth_of-cell_of x);
      four = omega arith;
      is = is ∙ ap (child_code p) (sym last);
      inside = inside;
    }

-- inside is a range of codes

pub in_range : {S S' : ℕ} (x c : ℕ) → CodeOn S x → CodeOn S' c → In x c → (c ≤ x) × (x < 32 * past c)
in_range x c wx wc i = (omega (arith, in_depth x c wx wc i), omega (arith, size_pos (depth x)))

pub range_in : {S S' : ℕ} (x c : ℕ) → CodeOn S x → CodeOn S' c → c ≤ x → x < 32 * past c → In x c
range_in x c wx wc l h =
    let k : Holds c (place x) = (omega arith, omega arith) in
    ⊎_elim
    (λ d. common x c (place x) wx wc d (holds_place x) k)
    (λ d. absurd (omega (arith, common c x (place x) wc wx (omega arith) k (holds_place x))))
    (le_or_lt (depth c) (depth x))

pub past_lt : (x y : ℕ) → past x ≤ place y → x < y
past_lt x y h = omega (arith, size_pos (depth x))
