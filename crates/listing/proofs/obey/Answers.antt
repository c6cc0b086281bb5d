-- By the order: what is printed is the answer of the call.
use mathlib.Core.Logic.{inl, inr}
use mathlib.Core.Path.{refl, subst, sym}
use Rattle.listing.specs.Lines.{Obeyed}
use Rattle.listing.specs.declared.Order.{Order}
use Rattle.listing.proofs.obey.Goals as goal

pub returns-in-Refine : goal.returns-in-Refine
returns-in-Refine c =
    let a = c.args in
    subst (λ (o : Order). Obeyed o a.slots.now c.refine.new.slots a.page.now.bytes c.put_answer.new.page.bytes) (sym c.in-Refine.is)
    (record { outcome = _; done = inl (refl, c.refine.ensures); left = refl; put = c.put_answer.ensures })

pub returns-in-Coarsen : goal.returns-in-Coarsen
returns-in-Coarsen c =
    let a = c.args in
    subst (λ (o : Order). Obeyed o a.slots.now c.coarsen.new.slots a.page.now.bytes c.put_answer-in-Coarsen.new.page.bytes) (sym c.in-Coarsen.is)
    (record { outcome = _; done = inr (refl, c.coarsen.ensures); left = refl; put = c.put_answer-in-Coarsen.ensures })
