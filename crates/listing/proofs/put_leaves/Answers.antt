-- Leaf by leaf: the lines put in so far, followed by those of the leaves that are left, are the whole list.
use mathlib.Core.List.{List}
use mathlib.Core.Path.{ap, sym, ◌∙◌, subst}
use Prim.Native.Nat.{ℕ}
use native.Mathlib.Omega.{arith}
use lib.ListN.{length, get_or}
use Rattle.codes.specs.Codes.{IsCode}
use Rattle.soundness.specs.Leaves.{Leaf}
use Rattle.soundness.proofs.Leaves.{leaf_at}
use Rattle.sides.proofs.Across.{leaf_code}
use Rattle.listing.specs.Listing.{LeafLine}
use Rattle.listing.specs.Lines.{Printed}
use Rattle.listing.proofs.Leaves.{no_line, line_more, all_lines}
use Rattle.listing.proofs.put_leaves.Goals as goal

pub loop-leaf-init : goal.loop-leaf-init
loop-leaf-init c = record { room = omega arith; lines = no_line _ _ }

pub new-requires : goal.new-requires
new-requires c =
    let L = c.args.mesh.now.leaves in
    let i = c.loop-leaf.leaf-index in
    let codes = c.codes-leaves.ensures.codes in
    subst (λ (leaves : List ℕ). IsCode (get_or leaves i 0)) (sym codes)
    (leaf_code _ L (get_or L i 0) c.codes-leaves.ensures.mesh (leaf_at L i (omega (arith, ap length codes))))

pub put_leaf-requires : goal.put_leaf-requires
put_leaf-requires c =
    let L = c.args.mesh.now.leaves in
    let i = c.loop-leaf.leaf-index in
    let codes = c.codes-leaves.ensures.codes in
    record {
      room = omega (arith, c.loop-leaf.invariant.room, ap length codes);
      leaf = subst (Leaf L) (ap (λ (leaves : List ℕ). get_or leaves i 0) (sym codes) ∙ sym c.new.ensures) (leaf_at L i (omega (arith, ap length codes)));
    }

pub loop-leaf-preserved : goal.loop-leaf-preserved
loop-leaf-preserved c =
    let l = c.loop-leaf in
    let p = c.put_leaf.ensures in
    let L = c.args.mesh.now.leaves in
    let codes = c.codes-leaves.ensures.codes in
    let leaf = c.new.ensures ∙ ap (λ (leaves : List ℕ). get_or leaves l.leaf-index 0) codes in
    record {
      room = omega (arith, l.invariant.room, p.upper_bound);
      lines = line_more L l.leaf-index (omega (arith, ap length codes)) l.invariant.lines
          (subst (λ (x : ℕ). Printed (LeafLine L x) l.page.bytes c.put_leaf.new.page.bytes) leaf p.printed);
    }

pub returns : goal.returns
returns c =
    let l = c.loop-leaf in
    let codes = c.codes-leaves.ensures.codes in
    record {
      printed = all_lines _ l.leaf-index (omega (arith, ap length codes)) l.invariant.lines;
      upper_bound = omega (arith, l.invariant.room, ap length codes);
    }
