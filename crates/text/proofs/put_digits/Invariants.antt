-- Zeros are put in so far.
use Rattle.std.proofs.Common.{◌≡◌, ◌++◌}
use Rattle.text.proofs.Text.{zeros}
use Rattle.text.proofs.put_digits.Given as goal

abbrev pub invariant-loop : goal.invariant-loop
invariant-loop g l = l.page.bytes ≡ l.initial.page.bytes ++ zeros l.counter
