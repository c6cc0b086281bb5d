-- The slots before `end` follow each other up to `want`, where the next one of every tiling begins.
use mathlib.Core.Path.{◌≡◌, refl, sym, subst}
use Prim.Native.Nat.{ℕ, ◌+◌, ◌≤◌, ◌<◌}
use native.Mathlib.Omega.{arith}
use lib.ListN.{get_or, length, take}
use Rattle.solids.specs.Solids.{solid_no}
use Rattle.solids.proofs.Numbers.{solid_known}
use Rattle.codes.specs.Places.{end, past}
use Rattle.soundness.proofs.Cells.{past_end}
use Rattle.tiling.specs.Tiling.{Tiled}
use Rattle.tiling.proofs.Places.{end_facts}
use Rattle.tiling.proofs.Pass.{skipped_same, pass_cell, pass_more, pass_zero, pass_out, pass_tiled}
use Rattle.tiling.proofs.Tiles.of.Goals as goal
use Rattle.tiling.proofs.Tiles.of.Goals.{
  After-size_of,
  else-loop-at-test,
  then-loop-at-test+then-want-last,
  then-want-last-2-via-then-want-last-2,
  then-want-last-2-via-else-want-last-2+then-end-eq0,
}

-- the pass stands before the end of the solid
below_end : (c : After-size_of) → c.loop-at.want < end (solid_no c.args.solid)
below_end c = let p = c.loop-at.invariant.2.upto in omega arith

pub returns-then-not-begins : goal.returns-then-not-begins
returns-then-not-begins c =
    let a = c.args in
    let l = c.loop-at in
    let p = l.invariant.2.upto in
    let n = c.begins.ensures.no c.if-not-begins.true in
    pass_zero (solid_no a.solid) a.faces (solid_known a.solid) a.slots.now l.want l.at l.invariant.2 (omega arith) (λ h b. n b)

-- the cell ends within the solid
cell_past : (c : After-size_of) → c.loop-at.want + c.size_of.result ≤ end (solid_no c.args.solid)
cell_past c =
    let a = c.args in
    let l = c.loop-at in
    let x = get_or a.slots.now l.at 0 in
    let b = c.begins.ensures.yes c.if-not-begins.false in
    let w = pass_cell (solid_no a.solid) a.faces (solid_known a.solid) a.slots.now l.want l.at x l.invariant.2 (below_end c) b in
    omega (arith, past_end x w, b.at, c.size_of.ensures)

pub next_place-want-requires-in-loop-at : goal.next_place-want-requires-in-loop-at
next_place-want-requires-in-loop-at c =
    let e = c.loop-at.invariant.0 in
    let f = end_facts (solid_no c.args.solid) _ (solid_known c.args.solid) e in
    record { order = omega (arith, cell_past (goal.at.next_place-want-requires-in-loop-at c).After-size_of, e); last = f.1; whole = f.2 }

pub loop-at-preserved : goal.loop-at-preserved
loop-at-preserved c =
    let a = c.args in
    let l = c.loop-at in
    let x = get_or a.slots.now l.at 0 in
    let r = c.next_place-want-in-loop-at.result in
    let b = c.begins.ensures.yes c.if-not-begins.false in
    let g : l.want + c.size_of.result ≡ past x = omega (arith, b.at, c.size_of.ensures) in
    let k = skipped_same l.invariant.0 g c.next_place-want-in-loop-at.ensures in
    (l.invariant.0, refl, pass_more (solid_no a.solid) a.faces (solid_known a.solid) a.slots.now l.want l.at r l.invariant.2 (below_end (goal.at.loop-at-preserved c).After-size_of) c.loop-at-test.true b k)

pub returns-then-want-last-2 : goal.returns-then-want-last-2
returns-then-want-last-2 c =
    let a = c.args in
    let l = c.loop-at in
    let e = l.invariant.0 in
    let f : l.want < end (solid_no a.solid) → length a.slots.now ≤ l.at =
    λ h. elim c.loop-at-test.branch [ else-loop-at-test w ↦ omega arith | then-loop-at-test+then-want-last w ↦ absurd (omega arith) ] in
    let g : end (solid_no a.solid) ≤ l.want → l.at ≡ 0 =
    λ h. elim c.then-want-last-2.branch [ then-want-last-2-via-then-want-last-2 w ↦ absurd (omega arith) | then-want-last-2-via-else-want-last-2+then-end-eq0 w ↦ omega arith ] in
    pass_out (solid_no a.solid) a.faces (solid_known a.solid) a.slots.now l.want l.at l.invariant.2 f g

pub invariant_of-result : goal.invariant_of-result
invariant_of-result c =
    let a = c.args in
    let l = c.loop-at in
    subst (λ (n : ℕ). Tiled a.faces (take n a.slots.now)) (sym l.invariant.1)
    (pass_tiled (solid_no a.solid) a.faces (solid_known a.solid) a.slots.now l.want l.at l.invariant.2 (omega arith) (omega arith))
