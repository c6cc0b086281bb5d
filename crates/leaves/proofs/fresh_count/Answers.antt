-- The faces that pass the test are counted.
use mathlib.Core.Path.{◌∙◌, refl, ap, sym}
use Prim.Native.Nat.{ℕ}
use native.Mathlib.Omega.{arith}
use lib.ListN.{length}
use Rattle.std.proofs.Common.{rules, tests}
use Rattle.std.proofs.lemmas.Iterator.{YieldsList-from_range}
use Rattle.std.proofs.lemmas.Iterator.Consumers.{count_from_yields_List, YieldsList-from_filter, YieldsList-at}
use Rattle.solids.specs.Solids.{solid_no, faces}
use Rattle.solids.proofs.Numbers.{solid_of-solid_no}
use Rattle.soundness.specs.Changes.{faces_from}
use Rattle.leaves.proofs.Fresh.{has, counted, told}
use Rattle.leaves.proofs.fresh_count.Goals as goal

pub returns : goal.returns
returns c =
    let a = c.args in
    let S = solid_no a.solid in
    let k = c.faces.result in
    let range = YieldsList-from_range 0 k k refl (omega arith) in
    count_from_yields_List _ _ c.count.ensures.ran
    (YieldsList-from_filter _ (has a.faces) (YieldsList-at c.filter.ensures.source range) c.filter.ensures.closure (λ x r q k. search (rules, tests, told)))
    ∙ counted S a.faces 0 k
    ∙ ap (λ (n : ℕ). length (faces_from S a.faces 0 n)) (c.faces.ensures ∙ ap faces (sym (solid_of-solid_no a.solid)))
