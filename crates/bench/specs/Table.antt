-- The bench table: its cases that are marked P, in one list. A case says what a call answers, by the call's own promise,
-- which leaves one answer for each input.
--
--   steps x s y             == the step of x in direction s is y
--   checks x n              == the number for the code x is n
--   locates s f t l r d x   == the point of these weights, located at depth d, is in the cell of code x
--   Says c                  == what the case c says
--   coded s f p d           == the code of solid s, face f and the d digits that the number p has, the last lowest
--   table                   == the cases, each with its number
--   AllSay rows             == every case of the list holds
use Rattle.std.specs.Prelude.{List, [], ◌∷◌, ℕ, ◌-◌, ◌*◌, ◌^◌}
use Rattle.refusals.specs.Refusals.{SOLID, FACE, DEPTH, TAIL}
use Rattle.refusals.specs.Answers.{done}
use Rattle.codes.specs.Codes.{joined}
use Rattle.codes.specs.Calls.{Checked}
use Rattle.steps.specs.Stepped.{Stepped}
use Rattle.points.specs.Located.{Located}

pub data Case : Type 0 where
  steps : ℕ → ℕ → ℕ → Case
  checks : ℕ → ℕ → Case
  locates : ℕ → ℕ → ℕ → ℕ → ℕ → ℕ → ℕ → Case

abbrev pub Says : Case → Type 0
Says (steps x s y) = Stepped x s (done y)
Says (checks x n) = Checked x n
Says (locates s f t l r d x) = Located s f t l r d (done x)

pub record Row : Type 0 where
  pub number : ℕ
  pub case : Case

abbrev pub row : ℕ → Case → Row
row n c = record { number = n; case = c }

abbrev pub coded : ℕ → ℕ → ℕ → ℕ → ℕ
coded s f p d = joined s f (p * 4 ^ (26 - d)) d

-- 1: six digits, right, on a face of the icosahedron. 2: path 10100111 vertical is 10000111, same face, on a face of each
-- solid. 3: path 0011110011 right, on icosahedron faces 5 (to face 10, path 0100000100) and 0 (to face 1, path 0001010001).
-- 4: tetrahedron face 0, path 01, vertical, to face 2, path 11. 5: tetrahedron face 3, path 11, right, to face 0, path 00.
-- 6: octahedron face 3 right, to face 0. 7: code 0 is SOLID; octahedron face 8 is FACE, face 7 is fine. 8: depth 27 is DEPTH,
-- 26 is fine; 4000000000000020 is TAIL. 13: tetrahedron face 0 at depth 1, digits 00, 01 and 10.
unfoldable pub table : List Row
table =
    row 1 (steps 0xce96000000000006 1 0xce98a00000000006)
    ∷ row 2 (steps (coded 1 0 0xa7 4) 2 (coded 1 0 0x87 4))
    ∷ row 2 (steps (coded 2 5 0xa7 4) 2 (coded 2 5 0x87 4))
    ∷ row 2 (steps (coded 3 19 0xa7 4) 2 (coded 3 19 0x87 4))
    ∷ row 3 (steps (coded 3 5 0x0f3 5) 1 (coded 3 10 0x104 5))
    ∷ row 3 (steps (coded 3 0 0x0f3 5) 1 (coded 3 1 0x051 5))
    ∷ row 4 (steps (coded 1 0 1 1) 2 (coded 1 2 3 1))
    ∷ row 5 (steps (coded 1 3 3 1) 1 (coded 1 0 0 1))
    ∷ row 6 (steps (coded 2 3 0 0) 1 (coded 2 0 0 0))
    ∷ row 7 (checks 0 SOLID)
    ∷ row 7 (checks (joined 2 8 0 0) FACE)
    ∷ row 7 (checks (joined 2 7 0 0) 0)
    ∷ row 8 (checks (joined 1 0 0 27) DEPTH)
    ∷ row 8 (checks (joined 1 0 0 26) 0)
    ∷ row 8 (checks 0x4000000000000020 TAIL)
    ∷ row 13 (locates 1 0 (2 ^ 25) (2 ^ 25) 0 1 0x4000000000000001)
    ∷ row 13 (locates 1 0 0 (2 ^ 25) (2 ^ 25) 1 0x4080000000000001)
    ∷ row 13 (locates 1 0 (2 ^ 25 - 1) 1 (2 ^ 25) 1 0x4100000000000001)
    ∷ []

abbrev pub AllSay : List Row → Type 0
AllSay [] = Unit {0}
AllSay (r ∷ rows) = Says r.case × AllSay rows
