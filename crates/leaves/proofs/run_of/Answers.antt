-- Two searches bound the codes of the cell and of what lies inside it.
use native.Mathlib.Omega.{arith}
use Rattle.leaves.proofs.Search.{past_code, run_is}
use Rattle.leaves.proofs.run_of.Goals as goal

pub overflow_add-past : goal.overflow_add-past
overflow_add-past c =
    let p = rw (← c.bits.ensures.bits) at (past_code c.args.cell c.depth-depth.result c.bits.ensures.code c.depth-depth.ensures.depth) in
    omega (arith, p.0, p.1)

pub returns : goal.returns
returns c =
    let p = past_code c.args.cell c.depth-depth.result c.bits.ensures.code c.depth-depth.ensures.depth in
    let a = rw c.bits-2.ensures.bits at c.below.ensures in
    let b = rw (c.bits.ensures.bits, p.0) at c.below-2.ensures in
    let r = run_is _ _ _ _ c.requires c.bits.ensures.code a b in
    record { order = r.0; upto = r.1; first = a; part = r.2 }
