-- Order by order: what is printed so far, followed by what the bytes that are left print, is what all of them print.
use mathlib.Core.List.{List, [], ◌++◌}
use mathlib.Core.Logic.{◌≢◌}
use mathlib.Core.Path.{◌≡◌, ap, sym, ◌∙◌, subst}
use Prim.Native.Nat.{ℕ, ◌≤◌, min}
use native.Mathlib.Omega.{arith}
use lib.ListN.{length, length-append, drop_of_length-le}
use Rattle.std.specs.Slice.Iter.{chunks_rest}
use Rattle.listing.specs.Listing.{OrderFirst, unreadable, Goes, other, lists, answer}
use Rattle.listing.specs.Lines.{letter, code}
use Rattle.listing.proofs.Lines.{answer_short, line_of, order_long}
use Rattle.listing.proofs.Orders.{Onward, grown_sound, order_onward, order_grown, onward_start}
use Rattle.listing.proofs.obey_all.Goals as goal

pub loop-line-init : goal.loop-line-init
loop-line-init c =
    let a = c.args in
    let same = c.into_iter-line-iterator.ensures.into_iter_gives in
    let rest : chunks_rest c.into_iter-line-iterator.result ≡ a.orders.now = ap (λ i. chunks_rest i) same ∙ c.chunks-line-items.ensures.rest in
    record {
      size = rw same c.chunks-line-items.ensures.size;
      room = omega (arith, ap length rest, ap length c.requires.empty);
      grown = c.requires.grown;
      onward = onward_start _ _ _ _ rest c.requires.empty;
    }

pub loop-line-preserved : goal.loop-line-preserved
loop-line-preserved c =
    let l = c.loop-line in
    let steps = c.in-Some.ensures.steps in
    let line = c.in-Some.line.now in
    let rest = chunks_rest c.next.new.self in
    let order = c.in-Some-order_of.order in
    let first = c.in-Some-order_of.ensures in
    let obeyed = c.obey.ensures in
    let short : length line ≤ 19 = omega (arith, l.invariant.size, steps.1.1) in
    let said = answer obeyed.outcome.reply.number in
    record {
      size = steps.0 ∙ l.invariant.size;
      room = omega (
        arith,
        l.invariant.room,
        ap length steps.1.0,
        length-append line rest,
        order_long line (letter order) (code order) first,
        ap length obeyed.put,
        length-append l.page.bytes said,
        answer_short obeyed.outcome.reply.number,
      );
      grown = order_grown _ _ _ _ order l.invariant.grown obeyed;
      onward = order_onward _ _ _ _ line rest _ _ order first short obeyed
          (subst (λ (b : List ℕ). Onward c.args.slots.now c.args.orders.now l.slots b l.page.bytes) steps.1.0 l.invariant.onward);
    }

pub put_list-requires : goal.put_list-requires
put_list-requires c = record { room = omega (arith, c.loop-line.invariant.room); sound = grown_sound _ c.loop-line.invariant.grown }

pub returns-clause-goes : goal.returns-clause-goes
returns-clause-goes c =
    let l = c.loop-line in
    let list = c.put_list.ensures.printed in
    let all : chunks_rest l.line-iterator ≡ [] = drop_of_length-le (chunks_rest l.line-iterator) {i = 0} (omega (arith, c.in-None.ensures.steps.1.0)) in
    subst (Goes c.args.slots.now c.args.orders.now) (sym list.put) (l.invariant.onward list.text (lists all list.is))

pub returns-in_default-clause-goes : goal.returns-in_default-clause-goes
returns-in_default-clause-goes c =
    let l = c.loop-line in
    let left = chunks_rest l.line-iterator in
    let line = c.in-Some.line.now in
    let rest = chunks_rest c.next.new.self in
    let steps = c.in-Some.ensures.steps in
    let cut : length line ≡ min 19 (length (line ++ rest)) = omega (arith, l.invariant.size, steps.1.1, ap length steps.1.0) in
    let some : left ≢ [] = λ e. omega (arith, ap length e, steps.1.2) in
    subst (Goes c.args.slots.now c.args.orders.now) (sym c.put_unreadable.ensures)
    (l.invariant.onward unreadable
    (other some (λ x d o. c.in_default.ensures x d (line_of line rest x d cut (subst (λ (b : List ℕ). OrderFirst b x d) steps.1.0 o)))))
