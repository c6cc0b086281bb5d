-- Too long, no solid line, a solid that is refused, or orders for a mesh that is made.
use mathlib.Core.List.{List, [], ◌++◌}
use mathlib.Core.Path.{◌≡◌, refl, ap, sym, ◌∙◌, subst}
use Prim.Native.Nat.{ℕ, ◌-◌}
use native.Mathlib.Omega.{arith}
use lib.ListN.{length, take, drop, length-drop}
use lib.Seq.{take_all}
use Rattle.refusals.specs.Answers.{number}
use Rattle.soundness.specs.Regions.{all_faces}
use Rattle.soundness.proofs.Fresh.{all_faces_set}
use Rattle.mesh.specs.Series.{start}
use Rattle.listing.specs.Listing.{Goes, Prints, long, unread, no_mesh, mesh}
use Rattle.listing.proofs.Lines.{refusal_number, answer_short}
use Rattle.listing.proofs.put_listing.Goals as goal

-- what is put into a page that was cleared
put : {p q t : List ℕ} → p ≡ [] → q ≡ p ++ t → q ≡ t
put {t} e f = f ∙ ap (λ (s : List ℕ). s ++ t) e

-- the bytes after the solid line
orders : (input : List ℕ) → take (length input - 2) (drop 2 input) ≡ drop 2 input
orders input = take_all (length input - 2) (drop 2 input) (omega (arith, length-drop 2 input))

pub returns-then-input-gt-INPUT-clause-prints : goal.returns-then-input-gt-INPUT-clause-prints
returns-then-input-gt-INPUT-clause-prints c =
    subst (Prints c.args.input.now) (sym (put c.clear.ensures c.put_unreadable.ensures)) (long c.if-input-gt-INPUT.true)

pub returns-in_default-clause-prints : goal.returns-in_default-clause-prints
returns-in_default-clause-prints c =
    subst (Prints c.args.input.now) (sym (put c.clear.ensures c.put_unreadable-in_default.ensures)) (unread c.if-input-gt-INPUT.false c.in_default.ensures)

pub returns-in-Err-clause-prints : goal.returns-in-Err-clause-prints
returns-in-Err-clause-prints c =
    let e = c.in-Err.refusal in
    subst (Prints c.args.input.now) (sym (put c.clear.ensures c.put_answer.ensures))
    (no_mesh c.in-Some.solid c.if-input-gt-INPUT.false c.in-Some.ensures c.in-Err.ensures (λ n. omega (arith, refusal_number e, n)))

pub returns-in-Err-clause-upper_bound : goal.returns-in-Err-clause-upper_bound
returns-in-Err-clause-upper_bound c = omega (arith, ap length (put c.clear.ensures c.put_answer.ensures), answer_short (number c.in-Err.refusal))

pub obey_all-requires : goal.obey_all-requires
obey_all-requires c =
    let S = c.in-Some.solid in
    let made = start S (all_faces S) (all_faces_set S) c.in-Ok.ensures refl in
    record {
      empty = c.clear.ensures;
      grown = record { solid = S; reach = made };
      short = omega (arith, ap length (orders c.args.input.now), length-drop 2 c.args.input.now);
    }

pub returns-in-Ok-clause-prints : goal.returns-in-Ok-clause-prints
returns-in-Ok-clause-prints c =
    mesh c.in-Some.solid c.if-input-gt-INPUT.false c.in-Some.ensures c.in-Ok.ensures refl
    (subst (λ (b : List ℕ). Goes c.fresh.new.slots b c.obey_all.new.page.bytes) (orders c.args.input.now) c.obey_all.ensures.goes)
