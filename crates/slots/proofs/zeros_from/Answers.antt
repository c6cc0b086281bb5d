-- What is joined is zero only where each of the slots from `n` on is.
use Rattle.std.proofs.Common.{ℕ, List, drop, take, ap, sym, ◌∙◌, rules, subst, length-drop}
use Rattle.std.proofs.Math.Seq.{take-length}
use Rattle.std.proofs.lemmas.Fn.{fold_over, slice_gives, fronts}
use Rattle.slots.proofs.Zeros.{Joined, joined_none, joined_more, joined_tells}
use Rattle.slots.proofs.zeros_from.Goals as goal

pub returns : goal.returns
returns c =
    let n = c.args.n in
    let xs = c.args.slots.now in
    let j = fold_over fronts (λ y. y.now) _ Joined _ (λ ys a x b f' j k. let more = joined_more ys a x.now j in search rules)
    _ _ _ _ (slice_gives c.iter.result) joined_none c.fold.ensures.ran in
    let all = ap (λ (k : ℕ). take k (drop n xs)) (sym (length-drop n xs)) ∙ take-length (drop n xs) in
    joined_tells xs n c.fold.result (subst (λ (l : List ℕ). Joined l c.fold.result) (c.iter.ensures.rest ∙ all) j)
