-- Slots that fail the pass, the zeros or the level test are not sound; slots that pass all three are.
use mathlib.Core.Bool.{true}
use mathlib.Core.Logic.{inl, inr}
use mathlib.Core.Path.{◌≡◌, refl, ◌∙◌, sym, subst}
use Rattle.soundness.specs.Leaves.{leaves}
use Rattle.soundness.specs.Soundness.{Mesh, SoundIn}
use Rattle.examine.specs.Examined.{first_solid}
use Rattle.examine.proofs.Examined.{untiled, not_zeros, not_level, seen}
use Rattle.examine.proofs.examine_faces.Goals as goal
use Rattle.examine.proofs.examine_faces.Goals.{Else-not-balanced}

pub returns-in_default : goal.returns-in_default
returns-in_default c = inr (c.requires.short, inl (untiled _ _ _ _ c.requires.solid c.in_default.ensures refl, refl))

pub returns-then-not-zeros_from : goal.returns-then-not-zeros_from
returns-then-not-zeros_from c =
    let t = c.in-Some.ensures in
    let z = rw c.len.ensures at (c.zeros_from.ensures.no c.if-not-zeros_from.true) in
    inr (c.requires.short, inl (not_zeros _ _ _ _ c.requires.solid t.counts t.some z, refl))

pub returns-then-not-balanced : goal.returns-then-not-balanced
returns-then-not-balanced c =
    let t = c.in-Some.ensures in
    let r = rw (t.faces, t.first) at (c.balanced.ensures.no c.if-not-balanced.true) in
    inr (c.requires.short, inl (not_level _ _ _ _ c.requires.solid t.counts t.some r, refl))

passed : (c : Else-not-balanced) → c.balanced.result ≡ true → SoundIn c.args.faces c.args.slots.now × (c.in-Some.tiles.leaves ≡ leaves c.args.slots.now)
passed c b =
    let t = c.in-Some.ensures in
    let z = rw c.len.ensures at (c.zeros_from.ensures.yes c.if-not-zeros_from.false) in
    let r = rw (t.faces, t.first) at (c.balanced.ensures.yes b) in
    let s = seen _ _ _ _ c.requires.solid t.counts t.some c.requires.faces c.requires.short z r in
    (s.0, t.first ∙ s.1)

pub new-requires : goal.new-requires
new-requires c =
    let p = passed (goal.at.new-requires c).Else-not-balanced c.if-not-balanced.false in
    record { solid = first_solid c.args.slots.now; mesh = subst (Mesh _ _) (sym p.1 ∙ sym c.codes.ensures.codes) p.0.mesh }

pub returns : goal.returns
returns c =
    let p = passed (goal.at.returns c).Else-not-balanced c.if-not-balanced.false in
    (c.requires.short, p.0, c.new.ensures.faces, c.new.ensures.leaves ∙ c.codes.ensures.codes ∙ p.1)
