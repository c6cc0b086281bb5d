-- Of the leaves that are not less than the code, those inside the cell come first, and the first begins where the cell begins.
use Rattle.std.proofs.Common.{◌≡◌, refl, ℕ, ◌<◌, List, length, get_or, eqb, ap, sym, ◌∙◌, subst, arith, ltb-true, ltb-false}
use Rattle.std.proofs.lemmas.List.{get_or_default}
use Rattle.refusals.specs.Answers.{Tells}
use Rattle.refusals.proofs.Answers.{tells_no}
use Rattle.codes.specs.Places.{place}
use Rattle.soundness.specs.Leaves.{Ascends}
use Rattle.soundness.specs.Inner.{Present, Below}
use Rattle.balance.specs.Tiled.{TiledFor}
use Rattle.balance.proofs.Tiled.{tiled_covers, tiled_code, leaf_tiled}
use Rattle.balance.proofs.Presence.{present_tells, present_none}
use Rattle.balance.proofs.has_some.Goals as goal
use Rattle.balance.proofs.has_some.Goals.{After-get, In-Some}

below : (c : After-get) → Below c.args.tiles.now.leaves c.args.cell c.below_near.result
below c =
    subst (λ (L : List ℕ). Below L c.args.cell c.below_near.result) c.codes-codes.ensures.codes
    (subst (λ (x : ℕ). Below c.codes-codes.result.now x c.below_near.result) c.bits.ensures.bits c.below_near.ensures)

upto : (c : In-Some) → c.below_near.result < length c.args.tiles.now.leaves
upto c = omega (arith, ap length c.codes-codes.ensures.codes, ltb-true _ _ (sym c.in-Some.ensures.lookup.0))

-- what was found is the leaf there
found : (c : In-Some) → get_or c.args.tiles.now.leaves c.below_near.result 0 ≡ c.in-Some.field-0.now
found c =
    let i = c.below_near.result in
    let x = c.in-Some.field-0.now in
    get_or_default c.args.tiles.now.leaves i 0 x (upto c) ∙ ap (λ (L : List ℕ). get_or L i x) (sym c.codes-codes.ensures.codes) ∙ sym c.in-Some.ensures.lookup.1

pub below_near-requires : goal.below_near-requires
below_near-requires c = subst Ascends (sym c.codes-codes.ensures.codes) (tiled_covers c.requires.tiled).ascend

pub new-requires : goal.new-requires
new-requires c =
    let t = c.args.tiles.now in
    tiled_code (subst (TiledFor t.faces t.leaves) (found c) (leaf_tiled refl (upto c) c.codes-codes.ensures.tiled))

pub returns-in-Some : goal.returns-in-Some
returns-in-Some c =
    let t = c.args.tiles.now in
    let a = c.args.cell in
    let i = c.below_near.result in
    let d = goal.at.returns-in-Some c in
    let e : place (get_or t.leaves i 0) ≡ c.place.result = ap place (found d.In-Some ∙ sym c.new.ensures) ∙ sym c.place.ensures in
    let p = present_tells t.faces t.leaves a i c.requires.tiled c.requires.here (below d.After-get) (upto d.In-Some) in
    subst (λ (x : ℕ). Tells (eqb x c.place-in-Some.result) (Present t.leaves a)) e
    (subst (λ (x : ℕ). Tells (eqb (place (get_or t.leaves i 0)) x) (Present t.leaves a)) (sym c.place-in-Some.ensures) p)

pub returns-in-None : goal.returns-in-None
returns-in-None c =
    let t = c.args.tiles.now in
    let e = c.codes-codes.ensures.codes in
    tells_no (present_none t.faces t.leaves c.args.cell c.below_near.result c.requires.tiled c.requires.here (below (goal.at.returns-in-None c).After-get)
    (omega (arith, ap length e, ltb-false _ _ (sym c.in-None.ensures.lookup.0))))
