-- Every case of the bench table holds: one test over the list, computed.
use mathlib.Core.Bool.{Bool, true, ◌&&◌}
use mathlib.Core.List.{List, [], ◌∷◌}
use mathlib.Core.Path.{◌≡◌, ap, ◌∙◌, subst}
use Prim.Native.Nat.{ℕ}
use lib.Dec.{T, eqb, ltb, eqb→eq, ltb→lt}
use Rattle.refusals.specs.Answers.{Reply, done, refused}
use Rattle.refusals.proofs.Refusals.{ask, answer_is}
use Rattle.solids.proofs.Tests.{and_l, and_r}
use Rattle.codes.specs.Codes.{size, IsCode, cell_of, code_of}
use Rattle.codes.specs.Calls.{Checked}
use Rattle.codes.proofs.Faults.{code_is_formed}
use Rattle.steps.specs.Stepped.{Arrives, Stepped, step_code}
use Rattle.steps.proofs.Stepped.{arrives, step_on}
use Rattle.solids.specs.Solids.{next_row, mirrored}
use Rattle.geometry.specs.Paths.{number, digits}
use Rattle.geometry.specs.Steps.{stops, replaced, mirror, walked, crosses, way, step}
use Rattle.points.specs.Points.{down, path_to}
use Rattle.points.specs.Located.{Located}
use Rattle.bench.specs.Table.{Case, steps, checks, locates, Says, Row, table, AllSay}
use Rattle.bench.proofs.Computed.{checked, located}

abbrev agrees : Case → Bool
agrees (steps x s y) = eqb (checked x).answer 0 && (ltb s 3 && eqb (step_code s x) y)
agrees (checks x n) = eqb (checked x).answer n
agrees (locates s f t l r d x) = eqb (located s f t l r d).answer.number 0 && eqb (located s f t l r d).answer.value x

reply_is : (r : Reply) (x : ℕ) → T (eqb r.number 0 && eqb r.value x) → r ≡ done x
reply_is r x h =
    let n : r.number ≡ 0 = eqb→eq _ _ (and_l (eqb r.number 0) (eqb r.value x) h) in
    let v : r.value ≡ x = eqb→eq _ _ (and_r (eqb r.number 0) (eqb r.value x) h) in
    ap (λ (k : ℕ). record { number = k; value = r.value }) n ∙ ap done v

step_is : (x s y : ℕ) → T (agrees (steps x s y)) → Stepped x s (done y)
step_is x s y h =
    let c : IsCode x = code_is_formed x (checked x).meets (eqb→eq _ _ (and_l (eqb (checked x).answer 0) (ltb s 3 && eqb (step_code s x) y) h)) in
    let t : T (ltb s 3 && eqb (step_code s x) y) = and_r (eqb (checked x).answer 0) (ltb s 3 && eqb (step_code s x) y) h in
    let e : step_code s x ≡ y = eqb→eq _ _ (and_r (ltb s 3) (eqb (step_code s x) y) t) in
    step_on refused x s (Arrives x s) c (ltb→lt _ _ (and_l (ltb s 3) (eqb (step_code s x) y) t)) (subst (λ (n : ℕ). Arrives x s (done n)) e (arrives x s c))

says : (c : Case) → T (agrees c) → Says c
says (steps x s y) h = step_is x s y h
says (checks x n) h = subst (Checked x) (eqb→eq (checked x).answer n h) (checked x).meets
says (locates s f t l r d x) h = subst (Located s f t l r d) (reply_is (located s f t l r d).answer x h) (located s f t l r d).meets

abbrev all_agree : List Row → Bool
all_agree [] = true
all_agree (r ∷ rows) = agrees r.case && all_agree rows

all_say : (rows : List Row) → T (all_agree rows) → AllSay rows
all_say [] h = tt
all_say (r ∷ rows) h = (says r.case (and_l (agrees r.case) (all_agree rows) h), all_say rows (and_r (agrees r.case) (all_agree rows) h))

pub table_holds : AllSay table
unfolding ask answer_is table size code_of cell_of number digits next_row mirrored stops replaced mirror walked crosses way step down path_to
table_holds = all_say table tt
