-- The run under a cell of a sound mesh: where it starts, how many leaves it has, and what an answer for that says to its callers.
use mathlib.Core.Bool.{Bool, cond}
use mathlib.Core.List.{List, [], ◌∷◌}
use mathlib.Core.Logic.{◌⊎◌, inl, inr}
use mathlib.Core.Path.{◌≡◌, refl, ap, sym, ◌∙◌}
use Prim.Native.Nat.{ℕ, zero, suc, ◌+◌, ◌-◌, ◌<◌, ◌≤◌}
use native.Mathlib.Omega.{arith}
use lib.ListN.{length, take, drop, replicate, length-take, length-drop}
use lib.Seq.{length-take-le, take-append-le, drop-append-le}
use borrow.Author.Tests.{lt-ltb, le-ltb, eq-eqb, ne_eqb}
use Rattle.refusals.specs.Refusals.{BUFFER, MESH}
use Rattle.refusals.proofs.Refusals.{met}
use Rattle.codes.specs.Codes.{code_faults}
use Rattle.codes.proofs.Faults.{code_passed}
use Rattle.leaves.specs.declared.Run.{Run}
use Rattle.soundness.specs.Leaves.{leaves, pad}
use Rattle.soundness.specs.Changes.{under}
use Rattle.soundness.specs.Inner.{Below}
use Rattle.leaves.specs.Leaves.{RunAt}
use Rattle.examine.specs.Examined.{mesh_faults}
use Rattle.mesh.specs.Answers.{Part, part, no_bounds}
use Rattle.mesh.specs.Calls.{come_before, start_of, Bounded, bounds_end, BoundsOf}

below_before : (L : List ℕ) (c r : ℕ) → Below L c r → r ≡ come_before c L
below_before [] c r B = omega (arith, B.upto)
below_before (x ∷ L) c zero B =
    sym (ap (λ (t : Bool). cond t (1 + come_before c L) 0) (le-ltb x c (B.rest 0 (omega arith) (omega arith))))
below_before (x ∷ L) c (suc r) B =
    let b : Below L c r = record {
      upto = omega (arith, B.upto);
      less = λ i l. B.less (suc i) (omega arith);
      rest = λ i l h. B.rest (suc i) (omega arith) (omega arith);
    } in
    let e : suc r ≡ 1 + come_before c L = omega (arith, below_before L c r b) in
    e ∙ sym (ap (λ (t : Bool). cond t (1 + come_before c L) 0) (lt-ltb x c (B.less 0 (omega arith))))

module _ (xs : List ℕ) (c : ℕ) (form : xs ≡ pad (length xs) (leaves xs)) (r : Run) (R : RunAt (leaves xs) c r) where
  -- a part of the leaves is a part of the slots
  run_holds : take (r.end - r.start) (drop r.start xs) ≡ under c (leaves xs)
  run_holds =
      let L = leaves xs in
      let Z = replicate (length xs - length L) 0 in
      let k : r.end - r.start ≤ length (drop r.start L) = omega (arith, length-drop r.start L, R.upto, R.order) in
      ap (λ (t : List ℕ). take (r.end - r.start) (drop r.start t)) form
      ∙ ap (take (r.end - r.start)) (drop-append-le r.start L Z (omega (arith, R.upto, R.order)))
      ∙ take-append-le (r.end - r.start) (drop r.start L) Z k
      ∙ R.part

  run_count : r.end - r.start ≡ length (under c (leaves xs))
  run_count =
      sym (length-take-le (r.end - r.start) (drop r.start (leaves xs)) (omega (arith, length-drop r.start (leaves xs), R.upto)))
      ∙ ap length R.part

  run_first : r.start ≡ come_before c (leaves xs)
  run_first = below_before (leaves xs) c r.start R.first

  pub empty_run : r.start ≡ r.end → Bounded xs c (part 0 0)
  empty_run e =
      let z : length (under c (leaves xs)) ≡ 0 = omega (arith, run_count) in
      let s : start_of c (leaves xs) ≡ 0 = ap (λ (t : Bool). cond t 0 (come_before c (leaves xs))) (eq-eqb (length (under c (leaves xs))) 0 z) in
      let k : 0 ≡ r.end - r.start = omega arith in
      record {
        is = ap (λ (a : ℕ). part a 0) (sym s) ∙ ap (part (start_of c (leaves xs))) (sym z);
        holds = ap (λ (m : ℕ). take m (drop r.start xs)) k ∙ run_holds;
      }

  pub some_run : r.start < r.end → Bounded xs c (part r.start (r.end - r.start))
  some_run e =
      let z : length (under c (leaves xs)) ≡ 0 → ⊥ = λ z. omega (arith, run_count) in
      let s : start_of c (leaves xs) ≡ come_before c (leaves xs) =
      ap (λ (t : Bool). cond t 0 (come_before c (leaves xs))) (ne_eqb (length (under c (leaves xs))) 0 z) in
      record {
        is = ap (λ (a : ℕ). part a (r.end - r.start)) (run_first ∙ sym s) ∙ ap (part (start_of c (leaves xs))) run_count;
        holds = run_holds;
      }

bounded_upto : (xs : List ℕ) (c a m : ℕ) → Bounded xs c (part a m) → a + m ≤ length xs
bounded_upto xs c a m B = go m refl
  where
    count : m ≡ length (under c (leaves xs))
    count = ap (λ (p : Part). p.count) B.is

    start : a ≡ start_of c (leaves xs)
    start = ap (λ (p : Part). p.start) B.is

    within : m ≤ length xs - a
    within = omega (arith, count, ap length B.holds, length-take m (drop a xs), length-drop a xs)

    go : (k : ℕ) → k ≡ m → a + m ≤ length xs
    go zero e =
        let z : length (under c (leaves xs)) ≡ 0 = omega (arith, count) in
        let s : start_of c (leaves xs) ≡ 0 = ap (λ (t : Bool). cond t 0 (come_before c (leaves xs))) (eq-eqb (length (under c (leaves xs))) 0 z) in
        omega (arith, start)
    go (suc k) e = omega (arith, within)

-- an answer that refuses by no number tells of a run, which lies in the slots
pub bounds_upto : (Q : ℕ) (xs : List ℕ) (c a m : ℕ) → BoundsOf Q xs c (part a m) → (length xs ≤ 8192) × (a + m ≤ length xs)
bounds_upto Q xs c a m h =
    let n : (k : ℕ) → 0 < k → part a m ≡ no_bounds k → ⊥ = λ k l e. omega (arith, ap (λ (p : Part). p.number) e) in
    let l = met (n BUFFER (omega arith)) h in
    let s = met (n MESH (omega arith)) l.1 in
    (l.0, bounded_upto xs c a m (code_passed no_bounds c (bounds_end xs c) n s.1).1)

-- what is said of another answer, by the answer for the bounds

need_as : {P A B X Y : Type 0} → (A → B) → (X → Y) → ((P → ⊥) × A) ⊎ (P × X) → ((P → ⊥) × B) ⊎ (P × Y)
need_as f g (inl h) = inl (h.0, f h.1)
need_as f g (inr h) = inr (h.0, g h.1)

pub bounds_as : {A : Type 0} (out : ℕ → A) (Q : ℕ) (xs : List ℕ) (c : ℕ) (rest : A → Type 0) (p : Part) (y : A) →
    ((k : ℕ) → 0 < k → p ≡ no_bounds k → y ≡ out k) → (Bounded xs c p → rest y) →
    BoundsOf Q xs c p → mesh_faults out Q xs (code_faults out c rest) y
bounds_as out Q xs c rest p y f g =
    need_as
    (f BUFFER (omega arith))
    (need_as
    (f MESH (omega arith))
    (need_as (f 1 (omega arith)) (need_as (f 2 (omega arith)) (need_as (f 3 (omega arith)) (need_as (f 4 (omega arith)) g)))))
