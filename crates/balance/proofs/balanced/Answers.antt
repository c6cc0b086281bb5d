-- Every leaf before `at` has its sides fine; a leaf that has not breaks the rule.
use Rattle.std.proofs.Common.{sym, subst, arith, below_more}
use Rattle.refusals.proofs.Answers.{tells_yes, tells_no}
use Rattle.balance.specs.Tiled.{TiledFor, SidesFine}
use Rattle.balance.proofs.Tiled.{leaf_tiled, tiled_code}
use Rattle.balance.proofs.Rows.{rows_all, rows_at}
use Rattle.balance.proofs.balanced.Goals as goal

pub new-requires : goal.new-requires
new-requires c =
    let e = c.codes-leaf-items.ensures in
    tiled_code (leaf_tiled e.codes c.loop-at-test.true e.tiled)

pub sides_fine-requires : goal.sides_fine-requires
sides_fine-requires c =
    let t = c.args.tiles.now in
    let e = c.codes-leaf-items.ensures in
    subst (TiledFor t.faces t.leaves) (sym c.new.ensures) (leaf_tiled e.codes c.loop-at-test.true e.tiled)

pub returns-then-not-sides_fine : goal.returns-then-not-sides_fine
returns-then-not-sides_fine c =
    let t = c.args.tiles.now in
    let e = c.codes-leaf-items.ensures.codes in
    tells_no
    (λ r. c.sides_fine.ensures.no c.if-not-sides_fine.true
    (subst (SidesFine t.faces t.leaves) (sym c.new.ensures) (rows_at t.faces t.leaves _ e r c.loop-at.at c.loop-at-test.true)))

pub loop-at-preserved : goal.loop-at-preserved
loop-at-preserved c =
    let t = c.args.tiles.now in
    below_more _ _ c.loop-at.invariant (subst (SidesFine t.faces t.leaves) c.new.ensures (c.sides_fine.ensures.yes c.if-not-sides_fine.false))

pub returns : goal.returns
returns c =
    let t = c.args.tiles.now in
    tells_yes (rows_all t.faces t.leaves _ c.codes-leaf-items.ensures.codes (λ k h. c.loop-at.invariant k (omega arith)))
