-- Leaf by leaf: the lines put in so far, followed by those of the leaves that are left, are the whole list.
use Prim.Native.Nat.{◌+◌, ◌*◌, ◌≤◌}
use lib.ListN.{length}
use Rattle.listing.specs.Lines.{Printed}
use Rattle.listing.proofs.Leaves.{Upto}
use Rattle.listing.proofs.put_leaves.Given as goal

abbrev pub invariant-loop-leaf : goal.invariant-loop-leaf
invariant-loop-leaf l = record {
  room : length l.page.bytes ≤ length l.initial.page.bytes + 26 * l.leaf-index;
  lines : Printed (Upto l.mesh.leaves l.leaf-index) l.initial.page.bytes l.page.bytes;
}
