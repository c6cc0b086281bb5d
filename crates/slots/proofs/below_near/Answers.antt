-- Of the slots around the guess the first is less than the key and the last is not, so the answer is among them.
use Rattle.std.proofs.Common.{◌≡◌, ℕ, ◌+◌, ◌-◌, ◌≤◌, get_or, take, drop, ap, arith}
use Rattle.slots.proofs.Search.{near_ascends, near_below}
use Rattle.slots.proofs.below_near.Goals as goal

pub below-requires-then-key-near : goal.below-requires-then-key-near
below-requires-then-key-near c = near_ascends c.args.leaves.now _ _ c.requires

pub returns-then-key-near : goal.returns-then-key-near
returns-then-key-near c =
    let a = c.args in
    let xs = a.leaves.now in
    let lo : ℕ = a.guess - 64 in
    let n : ℕ = a.guess + 64 - lo in
    let e : n - 1 ≡ 127 = omega arith in
    let last : a.key ≤ get_or (take n (drop lo xs)) (n - 1) 0 = omega (arith, ap (λ (i : ℕ). get_or (take n (drop lo xs)) i 0) e) in
    near_below xs lo n c.requires (omega arith) (omega arith) a.key _ c.if-near-key.true last c.below-then-key-near.ensures
