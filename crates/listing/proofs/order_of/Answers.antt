-- An order line is its letter, a space, 16 digits and a newline, and nothing else is.
use mathlib.Core.Path.{◌≡◌, sym, subst}
use Prim.Native.Nat.{ℕ, ◌-◌}
use native.Mathlib.Omega.{arith}
use lib.ListN.{length, get_or}
use Rattle.listing.specs.Lines.{OrderIs}
use Rattle.listing.proofs.Lines.{order_long, order_space, order_end, no_digits}
use Rattle.listing.proofs.order_of.Goals as goal

pub returns-then-line-lt19 : goal.returns-then-line-lt19
returns-then-line-lt19 c = λ l d o. omega (arith, order_long _ l d o)

pub returns-in_default-2 : goal.returns-in_default-2
returns-in_default-2 c = λ l d o.
    let line = c.args.line.now in
    let gap = order_space _ l d o in
    let at : 18 ≡ length line - 1 = omega arith in
    let end : get_or line (length line - 1) 0 ≡ 10 = subst (λ (i : ℕ). get_or line i 0 ≡ 10) at (order_end line l d o) in
    grind arith

pub returns-in_err-code : goal.returns-in_err-code
returns-in_err-code c =
    let line = c.args.line.now in
    subst (OrderIs line) (sym c.from_residual.ensures) (no_digits line (length line - 1 - 2) (omega arith) (omega arith) c.in_err-code.ensures)
