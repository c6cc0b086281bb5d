-- From the first digit: the bytes read so far are the digits of the number.
use mathlib.Core.Path.{◌≡◌}
use Prim.Native.Nat.{◌^◌, ◌<◌}
use lib.ListN.{take}
use Rattle.text.specs.Text.{digits}
use Rattle.text.proofs.read_hex.Given as goal

abbrev pub invariant-loop-byte : goal.invariant-loop-byte
invariant-loop-byte l = (l.number < 16 ^ l.byte-index) × (take l.byte-index l.bytes ≡ digits 16 l.byte-index l.number)
