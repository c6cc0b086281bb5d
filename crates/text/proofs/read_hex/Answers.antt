use mathlib.Core.Path.{refl, sym, subst}
use native.Mathlib.Omega.{arith}
use lib.ListN.{length}
use Rattle.text.specs.Text.{digits, Reads}
use Rattle.text.proofs.Text.{read_fits, read_bound, read_more, read_other}
use Rattle.text.proofs.read_hex.Goals as goal

pub loop-byte-init : goal.loop-byte-init
unfolding digits
loop-byte-init c = (omega arith, refl)

pub overflow_mul-number : goal.overflow_mul-number
overflow_mul-number c = omega (arith, read_fits _ _ c.loop-byte.invariant.0 (omega arith))

pub returns-in_err-number : goal.returns-in_err-number
returns-in_err-number c =
    let bytes = c.args.bytes.now in
    subst (Reads bytes (length bytes)) (sym c.from_residual.ensures)
    (read_other bytes _ c.loop-byte.byte-index (omega arith) c.in_err-number.ensures)

pub overflow_add-number : goal.overflow_add-number
overflow_add-number c = let e = c.in_ok-number.ensures in omega (arith, read_fits _ _ c.loop-byte.invariant.0 (omega arith), e.0)

pub loop-byte-preserved : goal.loop-byte-preserved
loop-byte-preserved c =
    let l = c.loop-byte in
    let s = c.in_ok-number.ensures in (
      read_bound l.number l.byte-index _ l.invariant.0 (omega arith) s.0,
      read_more c.args.bytes.now l.byte-index l.number _ (omega arith) l.invariant.1 s,
    )
