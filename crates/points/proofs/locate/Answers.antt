-- The head is checked by the faults of an empty path; the digits of the way down are shifted to the top of the path.
use mathlib.Core.Logic.{inr}
use mathlib.Core.Path.{ap, sym, ◌∙◌, subst}
use native.Mathlib.Omega.{arith}
use Rattle.solids.specs.Solids.{solid_of}
use Rattle.solids.proofs.Numbers.{faces_few}
use Rattle.refusals.specs.Answers.{done}
use Rattle.codes.specs.Codes.{IsCode, Formed}
use Rattle.points.proofs.Located.{head, found_path, found_code, found_formed}
use Rattle.points.proofs.locate.Goals as goal
use Rattle.points.proofs.locate.Goals.{Else-not-sums_to_whole}

formed : (c : Else-not-sums_to_whole) → let a = c.args in Formed a.solid a.face 0 a.depth
formed c = let a = c.args in head a.solid a.face a.depth c.in_ok-check.ensures

pub join-requires : goal.join-requires
join-requires c =
    let a = c.args in
    let h = formed (goal.at.join-requires c).Else-not-sums_to_whole in
    let q = found_path a.solid a.face a.t a.l a.r a.depth c.descend.result c.descend.ensures h.deep in
    record { solid = omega (arith, h.known); face = omega (arith, h.on, faces_few (solid_of a.solid)); path = rw q.0 q.1; depth = omega (arith, h.deep) }

pub new-requires : goal.new-requires
new-requires c =
    let a = c.args in
    let h = formed (goal.at.new-requires c).Else-not-sums_to_whole in
    let q = found_path a.solid a.face a.t a.l a.r a.depth c.descend.result c.descend.ensures h.deep in
    let v = c.join.ensures ∙ found_code a.solid a.face a.t a.l a.r a.depth h.known _ q.0 in
    subst IsCode (sym v) (found_formed a.solid a.face a.t a.l a.r a.depth h.on h.deep)

pub returns : goal.returns
returns c =
    let a = c.args in
    let h = formed (goal.at.returns c).Else-not-sums_to_whole in
    let q = found_path a.solid a.face a.t a.l a.r a.depth c.descend.result c.descend.ensures h.deep in
    let v = c.new.ensures ∙ c.join.ensures ∙ found_code a.solid a.face a.t a.l a.r a.depth h.known _ q.0 in
    inr (h.known, inr (h.on, inr (h.deep, inr (c.sums_to_whole.ensures.yes c.if-not-sums_to_whole.false, ap done v))))
