-- The shift leaves the digits alone, the mask the last two of them.
use mathlib.Core.Path.{ap, ◌∙◌}
use Prim.Native.Nat.{ℕ, ◌-◌, ◌*◌, ◌/◌, ◌^◌}
use native.Mathlib.Omega.{arith}
use lib.Bits.{bit_and, and_mask}
use Rattle.balance.proofs.Digits.{two_digits}
use Rattle.balance.proofs.last_two.Goals as goal

pub returns : goal.returns
returns c =
    let x = c.args.code in
    let k : ℕ = 57 - 2 * c.depth.result in
    ap (λ (n : ℕ). bit_and (n / 2 ^ k) 15) c.bits.ensures.bits ∙ and_mask (x / 2 ^ k) 4 ∙ two_digits x k c.requires c.depth.ensures.most (omega (arith, c.depth.ensures.depth))
