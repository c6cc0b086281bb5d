-- Every corner of a cell, at one place of the weights: a base, the same at all three corners, and an offset by the way up.
-- An upright cell's corner has one of the face's corners above the base, an inverted one's has two. The base alone tells
-- the path: its digits are read off by parity, so that nothing need be known of sums and powers.
--
-- Throughout, t, l and r are what the face's three corners weigh at the place.
--
--   offset up p t l r == what corner p has above the base
--   added up d t l r  == what the child of digit d has as its base above twice its parent's
--   base ds t l r     == the base of the cell that the path ds leads to
--
-- Assumes nothing.
use mathlib.Core.Bool.{Bool, true, false}
use mathlib.Core.List.{List, [], ◌∷◌}
use mathlib.Core.Path.{◌≡◌, refl, ap, ap₂, sym, ◌∙◌}
use Prim.Native.Nat.{ℕ, ◌+◌, ◌*◌, ◌≤◌}
use native.Mathlib.Omega.{arith}
use lib.ListN.{get_or, length}
use Rattle.solids.specs.Triangles.{Corner, tip, lft, rgt}
use Rattle.geometry.specs.Corners.{Digit, d00, d01, d10, d11, Triangle, corners, turned_by, upright}
use Rattle.geometry.proofs.Corners.{one, two, child_weight}

abbrev pub offset : Bool → Corner → ℕ → ℕ → ℕ → ℕ
offset true tip t l r = t
offset true lft t l r = l
offset true rgt t l r = r
offset false tip t l r = l + r
offset false lft t l r = t + l
offset false rgt t l r = t + r

abbrev added : Bool → Digit → ℕ → ℕ → ℕ → ℕ
added true d00 t l r = t
added true d01 t l r = l
added true d10 t l r = 0
added true d11 t l r = r
added false d00 t l r = l + r
added false d01 t l r = t + l
added false d10 t l r = t + l + r
added false d11 t l r = t + r

unfoldable pub base : List Digit → ℕ → ℕ → ℕ → ℕ
base [] t l r = 0
base (d ∷ ds) t l r = 2 * base ds t l r + added (upright ds) d t l r

-- the two corners of the parent that are summed at a corner of a child
child_offset : (up : Bool) (d : Digit) (p : Corner) (t l r : ℕ) →
    offset up (one d p) t l r + offset up (two d p) t l r ≡ added up d t l r + offset (turned_by d up) p t l r
child_offset true d00 tip t l r = omega arith
child_offset true d00 lft t l r = omega arith
child_offset true d00 rgt t l r = omega arith
child_offset true d01 tip t l r = omega arith
child_offset true d01 lft t l r = omega arith
child_offset true d01 rgt t l r = omega arith
child_offset true d10 tip t l r = omega arith
child_offset true d10 lft t l r = omega arith
child_offset true d10 rgt t l r = omega arith
child_offset true d11 tip t l r = omega arith
child_offset true d11 lft t l r = omega arith
child_offset true d11 rgt t l r = omega arith
child_offset false d00 tip t l r = omega arith
child_offset false d00 lft t l r = omega arith
child_offset false d00 rgt t l r = omega arith
child_offset false d01 tip t l r = omega arith
child_offset false d01 lft t l r = omega arith
child_offset false d01 rgt t l r = omega arith
child_offset false d10 tip t l r = omega arith
child_offset false d10 lft t l r = omega arith
child_offset false d10 rgt t l r = omega arith
child_offset false d11 tip t l r = omega arith
child_offset false d11 lft t l r = omega arith
child_offset false d11 rgt t l r = omega arith

-- a corner is base and offset, for any triangle P at the top
pub base_and_offset : (P : Triangle) (v : ℕ) (ds : List Digit) (p : Corner) →
    let t : ℕ = get_or (P tip) v 0 in let l : ℕ = get_or (P lft) v 0 in let r : ℕ = get_or (P rgt) v 0 in
    get_or (corners P ds p) v 0 ≡ base ds t l r + offset (upright ds) p t l r
unfolding corners base upright
base_and_offset P v [] tip = omega arith
base_and_offset P v [] lft = omega arith
base_and_offset P v [] rgt = omega arith
base_and_offset P v (d ∷ ds) p =
    omega (
      arith,
      child_weight d (corners P ds) p v,
      base_and_offset P v ds (one d p),
      base_and_offset P v ds (two d p),
      child_offset (upright ds) d p (get_or (P tip) v 0) (get_or (P lft) v 0) (get_or (P rgt) v 0),
    )

added≤ : (up : Bool) (d : Digit) (t l r : ℕ) → added up d t l r ≤ t + l + r
added≤ true d00 t l r = omega arith
added≤ true d01 t l r = omega arith
added≤ true d10 t l r = omega arith
added≤ true d11 t l r = omega arith
added≤ false d00 t l r = omega arith
added≤ false d01 t l r = omega arith
added≤ false d10 t l r = omega arith
added≤ false d11 t l r = omega arith

-- where the face weighs nothing, the base is nothing
pub base_zero : (ds : List Digit) (t l r : ℕ) → t + l + r ≡ 0 → base ds t l r ≡ 0
unfolding base
base_zero [] t l r e = refl
base_zero (d ∷ ds) t l r e = omega (arith, base_zero ds t l r e, added≤ (upright ds) d t l r)

-- what is added at each of the face's own three vertices, as one number; it tells the digit
key : Bool → Digit → ℕ
key up d = added up d 1 0 0 + 2 * added up d 0 1 0 + 4 * added up d 0 0 1

keyed : ℕ → Digit
keyed k = get_or (d10 ∷ d00 ∷ d01 ∷ d01 ∷ d11 ∷ d11 ∷ d00 ∷ d10 ∷ []) k d00

keyed_key : (up : Bool) (d : Digit) → keyed (key up d) ≡ d
unfolding keyed key
keyed_key true d00 = refl
keyed_key true d01 = refl
keyed_key true d10 = refl
keyed_key true d11 = refl
keyed_key false d00 = refl
keyed_key false d01 = refl
keyed_key false d10 = refl
keyed_key false d11 = refl

-- paths of one length with one base at each of the face's three vertices are one
pub path_of_base : (ds es : List Digit) → length ds ≡ length es →
    base ds 1 0 0 ≡ base es 1 0 0 → base ds 0 1 0 ≡ base es 0 1 0 → base ds 0 0 1 ≡ base es 0 0 1 → ds ≡ es
unfolding base key
path_of_base [] [] n x y z = refl
path_of_base [] (e ∷ es) n x y z = absurd (omega arith)
path_of_base (d ∷ ds) [] n x y z = absurd (omega arith)
path_of_base (d ∷ ds) (e ∷ es) n x y z =
    let i₁ = added≤ (upright ds) d 1 0 0 in
    let i₂ = added≤ (upright ds) d 0 1 0 in
    let i₃ = added≤ (upright ds) d 0 0 1 in
    let j₁ = added≤ (upright es) e 1 0 0 in
    let j₂ = added≤ (upright es) e 0 1 0 in
    let j₃ = added≤ (upright es) e 0 0 1 in
    let k : key (upright ds) d ≡ key (upright es) e = omega arith in
    ap₂ ◌∷◌ (sym (keyed_key (upright ds) d) ∙ ap keyed k ∙ keyed_key (upright es) e)
    (path_of_base ds es (omega arith) (omega arith) (omega arith) (omega arith))
