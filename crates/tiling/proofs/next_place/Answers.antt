-- Faces before the first that is in the set are passed whole.
use Rattle.std.proofs.Common.{rules, ◌≡◌, ℕ, ◌*◌, ◌<◌, ◌≤◌, ◌/◌, ◌%◌, ◌^◌, max, ap, sym, ◌∙◌, subst, arith}
use Rattle.std.specs.Option.{MatchOption}
use Rattle.std.proofs.lemmas.Option.{MatchOption-at_none, MatchOption-at_some}
use Rattle.std.proofs.lemmas.Iterator.{first_from_Range}
use Rattle.tiling.specs.Tiling.{Skipped}
use Rattle.tiling.proofs.Places.{HasFace, has_face, face_has, skip_none, skip_some}
use Rattle.tiling.proofs.next_place.Goals as goal
use Rattle.tiling.proofs.next_place.Goals.{After-find}

-- the first face of the set from the place's on, if there is one
first : (c : After-find) → MatchOption c.find.result
    ((k : ℕ) → c.args.place / 2 ^ 52 ≤ k → k < c.args.last / 2 ^ 52 → HasFace c.args.faces k → ⊥)
    (λ f. (c.args.place / 2 ^ 52 ≤ f) × (f < c.args.last / 2 ^ 52) × HasFace c.args.faces f ×
    ((k : ℕ) → c.args.place / 2 ^ 52 ≤ k → k < f → HasFace c.args.faces k → ⊥))
first c = first_from_Range _ _ _ c.find.result (HasFace c.args.faces) (λ (k : ℕ). HasFace c.args.faces k → ⊥) c.find.ensures.ran
    (λ x q h. search (rules, has_face)) (λ x q h. search (rules, face_has))

pub returns-in-Some : goal.returns-in-Some
returns-in-Some c =
    let a = c.args in
    let f = MatchOption-at_some _ _ _ c.in-Some.is (first (goal.at.returns-in-Some c).After-find) in
    let e : c.in-Some.face * 2 ^ 52 ≡ c.in-Some.face * 2 ^ 52 % 2 ^ 64 = omega (arith, f.1) in
    subst (Skipped a.faces a.last a.place) (ap (max a.place) e ∙ sym c.max.ensures)
    (skip_some a.faces a.last a.place c.requires.order c.requires.whole c.in-Some.face f.0 f.1 f.2 f.3)

pub returns-in-None : goal.returns-in-None
returns-in-None c =
    let a = c.args in
    skip_none a.faces a.last a.place c.requires.order c.requires.whole (MatchOption-at_none _ _ c.in-None.is (first (goal.at.returns-in-None c).After-find))
