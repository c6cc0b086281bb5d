-- A cell of depth at most 26 begins at its place if the digits after its last are zero; the mask has these.
use native.Mathlib.Omega.{arith}
use Rattle.tiling.proofs.Places.{some_places, begins_test}
use Rattle.tiling.proofs.begins.Goals as goal

pub overflow_sub-result : goal.overflow_sub-result
overflow_sub-result c = omega (arith, some_places _ c.size_of.ensures)

pub returns : goal.returns
returns c =
    let a = c.args in
    begins_test a.code a.want c.size_of.result (omega arith) (omega arith) c.size_of.ensures
