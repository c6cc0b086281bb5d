-- What the promises of the calls on codes say together: each call has one answer; packing and unpacking undo each other; the
-- parent of a child is the cell, and a cell is a child of its parent; a child's corners are those of the table; an ancestor
-- comes before its descendants.
-- Assumes nothing.
use mathlib.Core.List.{List, [], ◌∷◌}
use mathlib.Core.Logic.{inr}
use mathlib.Core.Path.{◌≡◌, ap, sym, ◌∙◌, subst}
use Prim.Native.Nat.{ℕ, suc, ◌<◌, ◌≤◌}
use native.Mathlib.Omega.{arith}
use Rattle.solids.specs.Triangles.{Corner}
use Rattle.refusals.specs.Refusals.{DIGIT, DEEP, ROOT, Single}
use Rattle.refusals.specs.Answers.{done, refused}
use Rattle.refusals.proofs.Refusals.{need_single, is_single, met}
use Rattle.refusals.proofs.Answers.{done_differs, done_one}
use Rattle.geometry.specs.Corners.{Digit, child_corners, corners}
use Rattle.geometry.specs.Paths.{digit_no, digit_of}
use Rattle.geometry.specs.Cells.{Cell, depth_of, corner, parent, child, under}
use Rattle.geometry.proofs.Paths.{digit<4, digit_of-digit_no}
use Rattle.codes.specs.Codes.{solid, face, path, depth, joined, IsCode, cell_of, code_of, Descends}
use Rattle.codes.specs.Calls.{Checked, Packed, Unpacking, unpacked, not_unpacked, Unpacked, parent_end, ParentOf, child_end, ChildOf, SomeChild}
use Rattle.codes.proofs.Faults.{faults_single, passed, go_on, code_single, code_passed, code_on}
use Rattle.codes.proofs.Codes.{formed_back, whole, code_formed, cell_of-code_of, code_of-cell_of, cell_formed, depth_of-cell_of, cell_deep, one_code}
use Rattle.codes.proofs.Family.{code_of-child, born}

-- one answer

pub check_single : (x : ℕ) → Single (Checked x)
check_single x = code_single (λ k. k) x (λ n. n ≡ 0) (λ h. is_single)

pub pack_single : (s f p d : ℕ) → Single (Packed s f p d)
pack_single s f p d = faults_single refused s f p d (λ r. r ≡ done (joined s f p d)) (λ h. is_single)

pub unpack_single : (x : ℕ) → Single (Unpacked x)
unpack_single x = code_single not_unpacked x (λ u. u ≡ unpacked (solid x) (face x) (path x) (depth x)) (λ h. is_single)

pub parent_single : (x : ℕ) → Single (ParentOf x)
parent_single x = code_single refused x (parent_end x) (λ h. need_single (λ p. is_single))

pub child_single : (x q : ℕ) → Single (ChildOf x q)
child_single x q = code_single refused x (child_end x q) (λ h. need_single (λ a. need_single (λ b. is_single)))

-- packing and unpacking

pub unpack_packed : (s f p d x : ℕ) → Packed s f p d (done x) → Unpacked x (unpacked s f p d)
unpack_packed s f p d x h =
    let a = passed refused s f p d (λ r. r ≡ done (joined s f p d)) (done_differs x) h in
    let b = formed_back s f p d a.0 in
    subst (λ (y : ℕ). Unpacked y (unpacked s f p d)) (sym (done_one a.1))
    (code_on not_unpacked (joined s f p d) (λ u. u ≡ unpacked (solid (joined s f p d)) (face (joined s f p d)) (path (joined s f p d)) (depth (joined s f p d)))
    (rw (b.solid_is, b.face_is, b.path_is, b.depth_is) a.0)
    (rw (b.solid_is, b.face_is, b.path_is, b.depth_is)))

pub pack_unpacked : (x s f p d : ℕ) → Unpacked x (unpacked s f p d) → Packed s f p d (done x)
pack_unpacked x s f p d h =
    let a = code_passed not_unpacked x (λ u. u ≡ unpacked (solid x) (face x) (path x) (depth x)) (λ k l e. omega (arith, ap (λ (u : Unpacking). u.number) e)) h in
    let e = a.1 in
    let es : s ≡ solid x = ap (λ (u : Unpacking). u.solid) e in
    let ef : f ≡ face x = ap (λ (u : Unpacking). u.face) e in
    let ep : p ≡ path x = ap (λ (u : Unpacking). u.path) e in
    let ed : d ≡ depth x = ap (λ (u : Unpacking). u.depth) e in
    rw (es, ef, ep, ed)
    (go_on refused (solid x) (face x) (path x) (depth x) (λ r. r ≡ done (joined (solid x) (face x) (path x) (depth x))) a.0 (ap done (sym (whole x))))

-- parent and child

pub record Parent (x y : ℕ) : Type 0 where
  pub code : IsCode x
  pub below : 0 < depth x
  pub is : y ≡ code_of (parent (cell_of x))

pub parent_done : (x y : ℕ) → ParentOf x (done y) → Parent x y
parent_done x y h =
    let a = code_passed refused x (parent_end x) (done_differs y) h in
    let b = met (done_differs y ROOT (omega arith)) a.1 in
    record { code = a.0; below = b.0; is = done_one b.1 }

record Child (x q y : ℕ) : Type 0 where
  code : IsCode x
  digit : q ≤ 3
  above : depth x < 26
  is : y ≡ code_of (child (cell_of x) (digit_of q))

child_done : (x q y : ℕ) → ChildOf x q (done y) → Child x q y
child_done x q y h =
    let a = code_passed refused x (child_end x q) (done_differs y) h in
    let b = met (done_differs y DIGIT (omega arith)) a.1 in
    let c = met (done_differs y DEEP (omega arith)) b.1 in
    record { code = a.0; digit = b.0; above = c.0; is = done_one c.1 }

child_cell : {x q y : ℕ} → Child x q y → cell_of y ≡ child (cell_of x) (digit_of q)
child_cell {x} {q} {y} h = ap cell_of h.is ∙ cell_of-code_of (child (cell_of x) (digit_of q)) (cell_formed x h.code) (rw (depth_of-cell_of x) h.above)

child_code_formed : {x q y : ℕ} → Child x q y → IsCode y
child_code_formed {x} {q} {y} h = subst IsCode (sym h.is) (code_formed (child (cell_of x) (digit_of q)) (cell_formed x h.code) (rw (depth_of-cell_of x) h.above))

pub parent_of_child : (x q y : ℕ) → ChildOf x q (done y) → ParentOf y (done x)
parent_of_child x q y h =
    let c = child_done x q y h in
    let d : depth y ≡ suc (depth x) = sym (depth_of-cell_of y) ∙ ap depth_of (child_cell c) ∙ ap suc (depth_of-cell_of x) in
    code_on refused y (parent_end y) (child_code_formed c)
    (inr (omega arith, ap done (sym (ap (λ (k : Cell). code_of (parent k)) (child_cell c) ∙ code_of-cell_of x c.code))))

pub child_of_parent : (x y : ℕ) → ParentOf x (done y) → SomeChild y x
child_of_parent x y h =
    let a = parent_done x y h in
    let n : 0 < depth_of (cell_of x) = rw (depth_of-cell_of x) a.below in
    let c = born (cell_of x) n in
    let q : ℕ = digit_no c.digit in
    let k : depth_of (cell_of x) ≡ suc (depth_of (parent (cell_of x))) = ap depth_of c.is in
    let l : depth_of (parent (cell_of x)) ≤ 26 = omega (arith, cell_deep x a.code) in
    let i : cell_of y ≡ parent (cell_of x) = ap cell_of a.is ∙ cell_of-code_of (parent (cell_of x)) (cell_formed x a.code) l in
    let f : IsCode y = subst IsCode (sym a.is) (code_formed (parent (cell_of x)) (cell_formed x a.code) l) in
    let e : depth y ≡ depth_of (parent (cell_of x)) = sym (depth_of-cell_of y) ∙ ap depth_of i in
    record {
      digit = q;
      is =
          code_on refused y (child_end y q) f
          (inr (
            omega (arith, digit<4 c.digit),
            inr (
              omega (arith, cell_deep x a.code),
              ap done
                  (sym (code_of-cell_of x a.code) ∙ ap code_of (c.is ∙ sym (ap (λ (k : Cell). child k (digit_of q)) i ∙ ap (child (parent (cell_of x))) (digit_of-digit_no c.digit)))),
            ),
          ));
    }

pub corner-child : (x q y : ℕ) → ChildOf x q (done y) → (p : Corner) → corner (cell_of y) p ≡ child_corners (digit_of q) (corner (cell_of x)) p
unfolding corners
corner-child x q y h p = ap (λ (c : Cell). corner c p) (child_cell (child_done x q y h))

-- order

under_after : (c : Cell) (q : Digit) (es : List Digit) → depth_of (under c (q ∷ es)) ≤ 26 → code_of c < code_of (under c (q ∷ es))
under_after c q [] h = omega (arith, code_of-child c q h)
under_after c q (e ∷ es) h = omega (arith, under_after c e es (omega arith), code_of-child (under c (e ∷ es)) q h)

pub ancestor_before : (x y : ℕ) → IsCode x → IsCode y → Descends x y → x < y
ancestor_before x y a b d = go d.within.digits d.within.inside
  where
    go : (es : List Digit) → cell_of y ≡ under (cell_of x) es → x < y
    go [] e = absurd (d.other (one_code y x b a e))
    go (q ∷ es) e =
        let l : depth_of (under (cell_of x) (q ∷ es)) ≤ 26 = subst (λ (c : Cell). depth_of c ≤ 26) e (cell_deep y b) in
        omega (arith, under_after (cell_of x) q es l, code_of-cell_of x a, code_of-cell_of y b, ap code_of e)
