-- The two digits of each arm ask for the sides that it looks at, and for no others.
use native.Mathlib.Omega.{arith}
use Rattle.refusals.proofs.Answers.{tells_yes}
use Rattle.balance.proofs.Asked.{row_0000, row_0000_no, row_0100, row_1100, row_0101_1101, row_other}
use Rattle.balance.proofs.sides_fine.Goals as goal

pub returns-then-side_fine : goal.returns-then-side_fine
returns-then-side_fine c =
    let t = c.last_two in
    let m = c.args.tiles.now in
    row_0000 c.args.leaf t.result t.ensures m.faces m.leaves (omega arith)
    c.in-0.is (c.side_fine.ensures.yes c.if-side_fine.true) c.side_fine-then-side_fine.ensures

pub returns-else-side_fine : goal.returns-else-side_fine
returns-else-side_fine c =
    let t = c.last_two in
    let m = c.args.tiles.now in
    row_0000_no c.args.leaf t.result t.ensures m.faces m.leaves (omega arith)
    c.in-0.is c.if-side_fine.false c.side_fine.ensures

pub returns-in-4 : goal.returns-in-4
returns-in-4 c =
    let t = c.last_two in
    let m = c.args.tiles.now in
    row_0100 c.args.leaf t.result t.ensures m.faces m.leaves (omega arith)
    c.in-4.is c.side_fine-in-4.ensures

pub returns-in-12 : goal.returns-in-12
returns-in-12 c =
    let t = c.last_two in
    let m = c.args.tiles.now in
    row_1100 c.args.leaf t.result t.ensures m.faces m.leaves (omega arith)
    c.in-12.is c.side_fine-in-12.ensures

pub returns-in-5 : goal.returns-in-5
returns-in-5 c =
    let t = c.last_two in
    let m = c.args.tiles.now in
    row_0101_1101 c.args.leaf t.result t.ensures m.faces m.leaves (omega arith)
    c.in-5.is c.side_fine-in-5.ensures

pub returns-in_default : goal.returns-in_default
returns-in_default c =
    let t = c.last_two in
    let m = c.args.tiles.now in
    tells_yes (row_other c.args.leaf t.result t.ensures m.faces m.leaves (λ e. omega arith) (λ e. omega arith) (λ e. omega arith) (λ e. omega arith))
