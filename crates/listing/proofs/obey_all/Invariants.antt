-- Order by order: what is printed so far, followed by what the bytes that are left print, is what all of them print.
use mathlib.Core.Path.{◌≡◌}
use Prim.Native.Nat.{◌+◌, ◌≤◌}
use lib.ListN.{length}
use Rattle.std.specs.Slice.Iter.{chunks_rest, chunks_size}
use Rattle.listing.specs.Lines.{Grown}
use Rattle.listing.proofs.Orders.{Onward}
use Rattle.listing.proofs.obey_all.Given as goal

abbrev pub invariant-loop-line : goal.invariant-loop-line
invariant-loop-line l = record {
  size : chunks_size l.line-iterator ≡ 19;
  room : length l.page.bytes + length (chunks_rest l.line-iterator) ≤ 4096;
  grown : Grown l.slots;
  onward : Onward l.initial.slots l.orders l.slots (chunks_rest l.line-iterator) l.page.bytes;
}
