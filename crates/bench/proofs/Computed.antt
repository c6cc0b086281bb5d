-- The answers of the pure calls, computed from their promises.
use Prim.Native.Nat.{ℕ, ◌+◌, ◌%◌, ◌^◌}
use Rattle.solids.specs.Solids.{solid_of, faces}
use Rattle.refusals.specs.Answers.{done}
use Rattle.refusals.proofs.Refusals.{Answered, ask, answer_is}
use Rattle.refusals.proofs.Answers.{tells_le, tells_lt, tells_eq, tells_both}
use Rattle.codes.specs.Codes.{solid, face, path, depth, size, code_of}
use Rattle.codes.specs.Calls.{Checked}
use Rattle.points.specs.Located.{found_cell, Located}

abbrev pub checked : (x : ℕ) → Answered (Checked x)
checked x =
    ask _ (tells_both _ _ (tells_le 1 (solid x)) (tells_le (solid x) 3))
    (ask _ (tells_lt (face x) (faces (solid_of (solid x))))
    (ask _ (tells_le (depth x) 26)
    (ask _ (tells_both _ _ (tells_lt (path x) (2 ^ 52)) (tells_eq (path x % size (depth x)) 0))
    (answer_is 0))))

abbrev pub located : (s f t l r d : ℕ) → Answered (Located s f t l r d)
located s f t l r d =
    ask _ (tells_both _ _ (tells_le 1 s) (tells_le s 3))
    (ask _ (tells_lt f (faces (solid_of s)))
    (ask _ (tells_le d 26)
    (ask _ (tells_eq (t + l + r) (2 ^ 26))
    (answer_is (done (code_of (found_cell s f t l r d)))))))
