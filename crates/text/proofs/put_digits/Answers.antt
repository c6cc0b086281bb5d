-- The zeros that were put in stand before the last digits.
use mathlib.Core.List.{List, ◌++◌, append_assoc}
use mathlib.Core.Path.{◌≡◌, ap, sym, ◌∙◌}
use Prim.Native.Nat.{ℕ, ◌-◌, ◌^◌, ◌<◌}
use native.Mathlib.Omega.{arith}
use Rattle.text.specs.Text.{digits}
use Rattle.text.proofs.Text.{zeros, digits_led}
use Rattle.text.proofs.put_digits.Goals as goal

pub returns-clause-bytes : goal.returns-clause-bytes
returns-clause-bytes g c =
    let a = c.args in
    let last = c.min-last.result in
    let before = a.page.now.bytes in
    let all : c.loop.counter ≡ a.count - last = omega arith in
    let fits : a.number < 2 ^ 64 = omega arith in
    c.put_last.ensures.bytes
    ∙ ap (λ (s : List ℕ). s ++ digits a.base last a.number) (c.loop.invariant ∙ ap (λ (k : ℕ). before ++ zeros k) all)
    ∙ append_assoc before (zeros (a.count - last)) (digits a.base last a.number)
    ∙ ap (λ (s : List ℕ). before ++ s) (sym (digits_led a.base a.count last a.number c.requires.least fits c.min-last.ensures))
