-- From a code to the word of its path, from what either method leaves there to the neighbour's code.
use Rattle.std.proofs.Common.{◌≡◌, ℕ, ◌+◌, ◌-◌, ◌*◌, ◌/◌, ◌%◌, ◌^◌, ◌<◌, ◌≤◌, Bool, true, false, cond, List, map, length, sym, ap, ◌∙◌, subst, ap₂, mul_assoc, div-add-mod', arith, lit<, pow-add}
use native.Mathlib.Nat.{mul-div-mul_right, mul-mod_left}
use lib.ListN.{length-map}
use Rattle.solids.specs.Triangles.{Side, side_no}
use Rattle.solids.specs.Solids.{Solid, solid_no, solid_of, next_face, mirrored}
use Rattle.solids.proofs.Numbers.{solid_of-solid_no}
use Rattle.geometry.specs.Corners.{Digit}
use Rattle.geometry.specs.Paths.{number, digits}
use Rattle.geometry.specs.Steps.{walked, crosses, mirror}
use Rattle.geometry.proofs.Across.{length-walked}
use Rattle.codes.specs.Codes.{solid, face, path, depth, joined, size, IsCode, path_bits, cell_of}
use Rattle.codes.proofs.Sizes.{size_two}
use Rattle.codes.proofs.Codes.{path_fits, digits_fit, depth_of-cell_of}
use Rattle.carry.specs.Carries.{digits_of, word_of, Carries, Mirrors}
use Rattle.walk.specs.Walks.{Walks}
use Rattle.steps.specs.Stepped.{step_code}
use Rattle.steps.specs.Words.{Over}
use Rattle.steps.proofs.Stepped.{inside_code, straight_code, mirrored_code}

-- a word has six digits more than a path

word_size : (d : ℕ) → d ≤ 26 → 4 ^ (32 - d) ≡ size d * 2 ^ 12
unfolding size
word_size d h =
    let e : 32 - d ≡ (26 - d) + 6 = omega arith in
    ap (λ (n : ℕ). 4 ^ n) e ∙ pow-add 4 (26 - d) 6

word_path : (d : ℕ) (ds : List Digit) → d ≤ 26 → length ds ≡ d → word_of d ds ≡ path_bits ds * 2 ^ 12
word_path d ds h e =
    ap (λ (m : ℕ). number ds * m) (word_size d h) ∙ sym (mul_assoc (number ds) (size d) (2 ^ 12))
    ∙ ap (λ (m : ℕ). number ds * size m * 2 ^ 12) (sym e)

-- the word of a code's path

module _ (x w : ℕ) (h : depth x ≤ 26) (e : w ≡ path x * 2 ^ 12) where
  pub aligned : path x % size (depth x) ≡ 0 → w % 4 ^ (32 - depth x) ≡ 0
  aligned t =
      let s : ℕ = size (depth x) in
      let p : path x ≡ path x / s * s = omega (arith, div-add-mod' (path x) s, t) in
      let q : w ≡ path x / s * 4 ^ (32 - depth x) =
      e ∙ ap (λ (m : ℕ). m * 2 ^ 12) p ∙ mul_assoc (path x / s) s (2 ^ 12) ∙ ap (λ (m : ℕ). path x / s * m) (sym (word_size (depth x) h)) in
      ap (λ (m : ℕ). m % 4 ^ (32 - depth x)) q ∙ mul-mod_left (path x / s) (4 ^ (32 - depth x))

  digits_same : digits_of (depth x) w ≡ (cell_of x).path
  unfolding cell_of
  digits_same = ap (digits (depth x)) (ap₂ ◌/◌ e (word_size (depth x) h) ∙ mul-div-mul_right (path x) (size (depth x)) (lit< tt))

-- a solid by its number
pub solid_told : (so : Solid) {n : ℕ} → solid_no so ≡ n → so ≡ solid_of n
solid_told so e = sym (solid_of-solid_no so) ∙ ap solid_of e

-- what is left by carries, what is left by digits

module _ (x : ℕ) (s : Side) (h : depth x ≤ 26) where
  walked_depth : length (walked s (cell_of x).path) ≡ depth x
  walked_depth = length-walked s (cell_of x).path ∙ depth_of-cell_of x

  walked_word : word_of (depth x) (walked s (cell_of x).path) ≡ path_bits (walked s (cell_of x).path) * 2 ^ 12
  walked_word = word_path (depth x) (walked s (cell_of x).path) h walked_depth

  pub over_carried : (d w p : ℕ) (lost : Bool) → d ≡ depth x → w ≡ path x * 2 ^ 12 → Carries s d w p lost → Over x s p lost
  over_carried d w p lost e f k =
      let i : digits_of d w ≡ (cell_of x).path = ap (λ (n : ℕ). digits_of n w) e ∙ digits_same x w h f in
      record {
        path = k.arrives ∙ ap₂ (λ (n : ℕ) (l : List Digit). word_of n (walked s l)) e i;
        flag = k.over ∙ ap (crosses s) i;
      }

  pub over_walked : (d q r : ℕ) (lost : Bool) → d ≡ depth x → q ≡ path x → Walks s (q / 2 ^ (52 - 2 * d)) d r lost →
      Over x s ((r * 2 ^ (52 - 2 * d)) % 2 ^ 64 * 2 ^ 12 % 2 ^ 64) lost
  unfolding cell_of
  over_walked d q r lost e f k =
      let ds = walked s (cell_of x).path in
      let z : 2 ^ (52 - 2 * d) ≡ size (depth x) = ap (λ (n : ℕ). 2 ^ (52 - 2 * n)) e ∙ sym (size_two (depth x) h) in
      let i : digits d (q / 2 ^ (52 - 2 * d)) ≡ (cell_of x).path = ap₂ digits e (ap₂ ◌/◌ f z) in
      let v : r ≡ number ds = k.path ∙ ap (λ (l : List Digit). number (walked s l)) i in
      let u : r * 2 ^ (52 - 2 * d) ≡ path_bits ds = ap₂ ◌*◌ v (z ∙ ap size (sym walked_depth)) in
      let l : path_bits ds < 2 ^ 52 = path_fits ds (rw walked_depth h) in
      let m : path_bits ds % 2 ^ 64 * 2 ^ 12 % 2 ^ 64 ≡ path_bits ds * 2 ^ 12 = omega arith in
      record {
        path = ap (λ (n : ℕ). n % 2 ^ 64 * 2 ^ 12 % 2 ^ 64) u ∙ m ∙ sym walked_word;
        flag = k.over ∙ ap (crosses s) i;
      }

  pub walk_fits : (d q : ℕ) → d ≡ depth x → q ≡ path x → q / 2 ^ (52 - 2 * d) < 4 ^ d
  walk_fits d q e f =
      let z : 2 ^ (52 - 2 * d) ≡ size d = sym (size_two d (rw e h)) in
      rw z (digits_fit q d (rw e h) (omega (arith, f)))

  pub over_told : {w : ℕ} {a b : Bool} → a ≡ b → Over x s w a → Over x s w b
  over_told {w} e o = subst (λ (f : Bool). Over x s w f) e o

  pub over_tidy : {w : ℕ} {b : Bool} → Over x s w b → w % 2 ^ 12 ≡ 0
  over_tidy o = omega (arith, o.path ∙ walked_word)

  over_path : {w : ℕ} {b : Bool} → Over x s w b → w / 2 ^ 12 ≡ path_bits (walked s (cell_of x).path)
  over_path o = omega (arith, o.path ∙ walked_word)

module _ (x : ℕ) (s : Side) (c : IsCode x) where
  -- the neighbour's code: inside the face, over a straight seam, over a mirrored one

  pub go_inside : {w : ℕ} → Over x s w false → joined (solid x) (face x) (w / 2 ^ 12) (depth x) ≡ step_code (side_no s) x
  go_inside o = ap (λ (p : ℕ). joined (solid x) (face x) p (depth x)) (over_path x s c.deep o) ∙ sym (inside_code x s c (sym o.flag))

  go_straight : {w : ℕ} → Over x s w true → mirrored (solid_of (solid x)) s (face x) ≡ false →
      joined (solid x) (next_face (solid_of (solid x)) s (face x)) (w / 2 ^ 12) (depth x) ≡ step_code (side_no s) x
  go_straight o m =
      ap (λ (p : ℕ). joined (solid x) (next_face (solid_of (solid x)) s (face x)) p (depth x)) (over_path x s c.deep o)
      ∙ sym (straight_code x s c (sym o.flag) m)

  pub mirrored_word : (w p : ℕ) → w ≡ path x * 2 ^ 12 → Mirrors w p → p ≡ path_bits (map mirror (cell_of x).path) * 2 ^ 12
  mirrored_word w p e k =
      k (depth x) c.deep (aligned x w c.deep e c.tail.1) ∙ ap (λ (l : List Digit). word_of (depth x) (map mirror l)) (digits_same x w c.deep e)
      ∙ word_path (depth x) (map mirror (cell_of x).path) c.deep (length-map (cell_of x).path mirror ∙ depth_of-cell_of x)

  go_mirrored : {w : ℕ} → Over x s w true → mirrored (solid_of (solid x)) s (face x) ≡ true →
      (p : ℕ) → p ≡ path_bits (map mirror (cell_of x).path) * 2 ^ 12 →
      joined (solid x) (next_face (solid_of (solid x)) s (face x)) (p / 2 ^ 12) (depth x) ≡ step_code (side_no s) x
  go_mirrored o m p q =
      let e : p / 2 ^ 12 ≡ path_bits (map mirror (cell_of x).path) = omega arith in
      ap (λ (n : ℕ). joined (solid x) (next_face (solid_of (solid x)) s (face x)) n (depth x)) e
      ∙ sym (mirrored_code x s c (sym o.flag) m)

  -- over a seam of either kind

  pub over_chosen : (m : Bool) {w p : ℕ} {b : Bool} → Over x s w b → p ≡ path_bits (map mirror (cell_of x).path) * 2 ^ 12 → cond m p w % 2 ^ 12 ≡ 0
  over_chosen true o q = omega arith
  over_chosen false o q = over_tidy x s c.deep o

  pub go_over : (m : Bool) {w p : ℕ} → Over x s w true → m ≡ mirrored (solid_of (solid x)) s (face x) →
      p ≡ path_bits (map mirror (cell_of x).path) * 2 ^ 12 →
      joined (solid x) (next_face (solid_of (solid x)) s (face x)) (cond m p w / 2 ^ 12) (depth x) ≡ step_code (side_no s) x
  go_over true {w} {p} o e q = go_mirrored o (sym e) p q
  go_over false o e q = go_straight o (sym e)
