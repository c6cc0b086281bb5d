-- For any slots and numbers each call on a mesh has one answer, the slots after it included.
--
--   fresh_single, refine_single, coarsen_single            == the calls that change a mesh
--   across_single, bounds_single, run_single, count_single == the calls that read it
--
-- Assumes nothing.
use mathlib.Core.List.{List}
use mathlib.Core.Logic.{inl, inr}
use mathlib.Core.Path.{ap, sym, ◌∙◌}
use Prim.Native.Nat.{ℕ}
use Rattle.refusals.specs.Refusals.{Single}
use Rattle.refusals.specs.Answers.{refused}
use Rattle.refusals.proofs.Refusals.{need_single, is_single}
use Rattle.codes.proofs.Faults.{code_single}
use Rattle.soundness.specs.Leaves.{leaves}
use Rattle.soundness.proofs.Answers.{met_single, least_single}
use Rattle.mesh.specs.Answers.{Outcome, outcome, blocked, crossing, not_crossed, no_bounds}
use Rattle.mesh.specs.Calls.{kept, none, unless_blocked, Crossed, refine_end, coarsen_end, across_end, bounds_end, Freshened, Refined, Coarsened, AcrossOf, BoundsOf, RunOf, CountOf}

unless_single : (xs : List ℕ) (P : ℕ → Type 0) (rest : Outcome → Type 0) → Single rest → Single (unless_blocked xs P rest)
unless_single xs P rest h a b (inl p) (inl q) =
    p.is ∙ ap (λ (x : ℕ). outcome (blocked x) xs) (least_single P p.leaf q.leaf p.least q.least) ∙ sym q.is
unless_single xs P rest h a b (inl p) (inr q) = absurd (q.0 (record { one = p.leaf; is = p.least.is }))
unless_single xs P rest h a b (inr p) (inl q) = absurd (p.0 (record { one = q.leaf; is = q.least.is }))
unless_single xs P rest h a b (inr p) (inr q) = h a b p.1 q.1

pub fresh_single : (S Q : ℕ) (xs : List ℕ) → Single (Freshened S Q xs)
fresh_single S Q xs = need_single (λ short. need_single (λ known. need_single (λ room. is_single)))

pub refine_single : (Q : ℕ) (xs : List ℕ) (c : ℕ) → Single (Refined Q xs c)
refine_single Q xs c =
    need_single (λ short. need_single (λ sound. code_single (kept xs) c (refine_end xs c) (λ code.
    need_single (λ leaf. need_single (λ deep. unless_single xs _ _ (need_single (λ room. is_single)))))))

pub coarsen_single : (Q : ℕ) (xs : List ℕ) (c : ℕ) → Single (Coarsened Q xs c)
coarsen_single Q xs c =
    need_single (λ short. need_single (λ sound. code_single (kept xs) c (coarsen_end xs c) (λ code.
    need_single (λ deep. need_single (λ four. unless_single xs _ _ is_single)))))

crossed_single : (xs : List ℕ) (c s : ℕ) → Single (Crossed xs c s)
crossed_single xs c s a b p q = p.is ∙ ap crossing (met_single (leaves xs) c s p.met q.met p.side q.side) ∙ sym q.is

pub across_single : (Q : ℕ) (xs : List ℕ) (c s : ℕ) → Single (AcrossOf Q xs c s)
across_single Q xs c s =
    need_single (λ short. need_single (λ sound. code_single not_crossed c (across_end xs c s) (λ code.
    need_single (λ side. need_single (λ leaf. crossed_single xs c s)))))

pub bounds_single : (Q : ℕ) (xs : List ℕ) (c : ℕ) → Single (BoundsOf Q xs c)
bounds_single Q xs c =
    need_single (λ short. need_single (λ sound. code_single no_bounds c (bounds_end xs c) (λ code a b p q. p.is ∙ sym q.is)))

pub run_single : (Q : ℕ) (xs : List ℕ) (c : ℕ) → Single (RunOf Q xs c)
run_single Q xs c = need_single (λ short. need_single (λ sound. code_single none c _ (λ code. is_single)))

pub count_single : (Q : ℕ) (xs : List ℕ) (c : ℕ) → Single (CountOf Q xs c)
count_single Q xs c = need_single (λ short. need_single (λ sound. code_single refused c _ (λ code. is_single)))
