-- What locating answers: one reply for any numbers, and the least code of the point's face and depth that holds the point.
use mathlib.Core.Logic.{inl, inr}
use mathlib.Core.Path.{◌≡◌, ap, ap₂, sym, ◌∙◌, subst}
use Prim.Native.Nat.{ℕ, ◌+◌, ◌-◌, ◌*◌, ◌%◌, ◌^◌, ◌<◌, ◌≤◌}
use native.Mathlib.Nat.{zero-mod}
use native.Mathlib.Omega.{arith}
use Rattle.solids.specs.Solids.{Known, solid_of, faces}
use Rattle.solids.proofs.Numbers.{solid_no-solid_of}
use Rattle.refusals.specs.Refusals.{SOLID, FACE, DEPTH, POINT, Single}
use Rattle.refusals.specs.Answers.{done, refused}
use Rattle.refusals.proofs.Refusals.{need_single, is_single, met}
use Rattle.refusals.proofs.Answers.{done_differs, done_one}
use Rattle.geometry.specs.Paths.{number}
use Rattle.geometry.specs.Cells.{Cell, cell, depth_of}
use Rattle.codes.specs.Codes.{joined, size, faults, path_bits, Formed, IsCode, cell_of, code_of}
use Rattle.codes.proofs.Faults.{passed}
use Rattle.codes.proofs.Sizes.{size_two}
use Rattle.codes.proofs.Codes.{path_fits, cell_back, code_formed, cell_of-code_of, code_of-cell_of, depth_of-cell_of}
use Rattle.points.specs.Points.{weights, path_to, point_of, Holds}
use Rattle.points.specs.Located.{found_cell, Located, On, Least}
use Rattle.points.proofs.Down.{length-path_to}
use Rattle.points.proofs.Holds.{reached_holds, reached_least}

-- a head that an empty path is checked with is well formed
pub head : (s f d : ℕ) → faults refused s f 0 d (λ r. r ≡ done 0) (done 0) → Formed s f 0 d
head s f d h = (passed refused s f 0 d (λ r. r ≡ done 0) (done_differs 0) h).0

module _ (s f t l r d : ℕ) where
  pub located_single : Single (Located s f t l r d)
  located_single = need_single (λ a. need_single (λ b. need_single (λ c. need_single (λ e. is_single))))

  -- a path of 0 is never at fault, so the check of the head gives 1, 2, 3 or 0
  pub head_refused : {n : ℕ} → faults (λ k. k) s f 0 d (λ n. n ≡ 0) n → (n ≡ 0 → ⊥) → Located s f t l r d (refused n)
  head_refused (inl x) z = inl (x.0, ap refused x.1)
  head_refused (inr (a, inl x)) z = inr (a, inl (x.0, ap refused x.1))
  head_refused (inr (a, inr (b, inl x))) z = inr (a, inr (b, inl (x.0, ap refused x.1)))
  head_refused (inr (a, inr (b, inr (c, inl x)))) z = absurd (x.0 (omega arith, zero-mod (size d)))
  head_refused (inr (a, inr (b, inr (c, inr (e, x))))) z = absurd (z x)

  -- the path shifted to the top of its field
  pub found_path : (m : ℕ) → m ≡ number (path_to (weights t l r) d) → d ≤ 26 →
      ((m * 2 ^ (52 - 2 * d)) % 2 ^ 64 ≡ path_bits (path_to (weights t l r) d)) × (path_bits (path_to (weights t l r) d) < 2 ^ 52)
  found_path m e h =
      let p = path_to (weights t l r) d in
      let n = length-path_to (weights t l r) d in
      let q : path_bits p < 2 ^ 52 = path_fits p (rw n h) in
      let i : m * 2 ^ (52 - 2 * d) ≡ path_bits p = ap₂ ◌*◌ e (sym (size_two d h) ∙ ap size (sym n)) in
      (ap (λ (n : ℕ). n % 2 ^ 64) i ∙ omega arith, q)

  pub found_code : Known s → (m : ℕ) → m ≡ path_bits (path_to (weights t l r) d) → joined s f m d ≡ code_of (found_cell s f t l r d)
  unfolding code_of
  found_code k m e = rw (solid_no-solid_of s k, e, length-path_to (weights t l r) d)

  pub found_formed : f < faces (solid_of s) → d ≤ 26 → IsCode (code_of (found_cell s f t l r d))
  found_formed on h = code_formed (found_cell s f t l r d) on (rw (length-path_to (weights t l r) d) h)

  -- the reply's code is the least that holds the point
  module _ (k : Known s) (on : f < faces (solid_of s)) (h : d ≤ 26) (e : t + l + r ≡ 2 ^ 26) where
    found : Cell
    found = found_cell s f t l r d

    found_deep : depth_of found ≤ 26
    unfolding found
    found_deep = rw (length-path_to (weights t l r) d) h

    cell_of-found : cell_of (code_of found) ≡ found
    unfolding found
    cell_of-found = cell_of-code_of (found_cell s f t l r d) on found_deep

    found_on : On s f d (code_of found)
    unfolding found code_of
    found_on =
        let b = cell_back (found_cell s f t l r d) on found_deep in
        record {
          code = found_formed on h;
          solid_is = b.solid_is ∙ solid_no-solid_of s k;
          face_is = b.face_is;
          depth_is = b.depth_is ∙ length-path_to (weights t l r) d;
        }

    least : (y : ℕ) → On s f d y → Holds (cell_of y) (point_of (solid_of s) f (weights t l r)) → code_of found ≤ y
    unfolding found cell_of
    least y o q =
        let p = (cell_of y).path in
        let i : cell_of y ≡ cell (solid_of s) f p = ap₂ (λ (m g : ℕ). cell (solid_of m) g p) o.solid_is o.face_is in
        let j : Holds (cell (solid_of s) f p) (point_of (solid_of s) f (weights t l r)) = subst (λ (c : Cell). Holds c (point_of (solid_of s) f (weights t l r))) i q in
        subst (λ (m : ℕ). code_of (found_cell s f t l r d) ≤ m) (ap code_of (sym i) ∙ code_of-cell_of y o.code)
        (reached_least (solid_of s) f d (weights t l r) on e h p (depth_of-cell_of y ∙ o.depth_is) j)

  pub located_least : (x : ℕ) → Located s f t l r d (done x) → Least s f d (point_of (solid_of s) f (weights t l r)) x
  unfolding found
  located_least x h =
      let a = met (done_differs x SOLID (omega arith)) h in
      let b = met (done_differs x FACE (omega arith)) a.1 in
      let c = met (done_differs x DEPTH (omega arith)) b.1 in
      let e = met (done_differs x POINT (omega arith)) c.1 in
      rw (done_one e.1) (record {
        on = found_on a.0 b.0 c.0 e.0;
        holds = rw (cell_of-found a.0 b.0 c.0 e.0) (reached_holds (solid_of s) f d (weights t l r) e.0 c.0);
        least = least a.0 b.0 c.0 e.0;
      })
