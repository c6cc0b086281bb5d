-- By the digits before the last: they are put in, and the last one after them.
use mathlib.Core.List.{List, ◌++◌, append-nil}
use mathlib.Core.Path.{ap, sym, ◌∙◌}
use Prim.Native.Nat.{ℕ}
use Rattle.std.proofs.Common.{rules}
use Rattle.text.proofs.Text.{digits_none, digits_put, put_last, room_for_last}
use Rattle.text.proofs.+put_last.Goals as goal

pub push-requires : goal.push-requires
push-requires g t c = (search rules, room_for_last _ _ _ _ _ c.if-count-gt0.true c.put_last.ensures.bytes c.glyph.ensures.ascii c.requires.room)

pub returns-then-count-gt0 : goal.returns-then-count-gt0
returns-then-count-gt0 g t c =
    let put = put_last _ _ _ _ _ c.if-count-gt0.true c.put_last.ensures.bytes c.glyph.ensures.value (c.push.ensures.ascii c.glyph.ensures.ascii) in
    record { bytes = put; len = digits_put _ _ _ _ _ put }

pub returns-else-count-gt0 : goal.returns-else-count-gt0
returns-else-count-gt0 g t c =
    let a = c.args in
    let put = sym (append-nil a.page.now.bytes) ∙ ap (λ (s : List ℕ). a.page.now.bytes ++ s) (sym (digits_none a.base a.count a.number c.if-count-gt0.false)) in
    record { bytes = put; len = digits_put _ _ _ _ _ put }
