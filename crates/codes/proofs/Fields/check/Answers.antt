-- Each test is a cause of the sequence; the mask has the path bits after the last digit.
use mathlib.Core.Logic.{inl, inr}
use mathlib.Core.Path.{refl, sym, ◌∙◌}
use native.Mathlib.Omega.{arith}
use Rattle.codes.proofs.Words.{tail_bits}
use Rattle.codes.proofs.Fields.check.Goals as goal

pub returns-then-self-ne0 : goal.returns-then-self-ne0
returns-then-self-ne0 c =
    let f = c.args.self in
    let t = tail_bits f.path f.depth (omega arith) in
    inr ((omega arith, omega arith), inr (omega arith, inr (omega arith, inl ((λ h. c.if-self-ne0.true (t ∙ h.1)), refl))))

pub returns : goal.returns
returns c =
    let f = c.args.self in
    let t = tail_bits f.path f.depth (omega arith) in
    inr ((omega arith, omega arith), inr (omega arith, inr (omega arith, inr ((omega arith, sym t ∙ c.if-self-ne0.false), refl))))
