-- Meshes made and changed, on their lists of leaves.
--
--   children c       == the codes of the four children of c, ascending
--   fresh_leaves S Q == the faces of Q in order
--   expanded A L     == the leaves L, those that pass the test A replaced by their children
--   refined a L      == the leaf a replaced by its children
--   coarsened c L    == the children of c replaced by c
--   under c L        == those of L that are c or lie inside it, in order
use Rattle.std.specs.Prelude.{Bool, ◌&&◌, List, [], ◌∷◌, ◌++◌, ℕ, zero, suc, ◌+◌, ◌*◌, ◌/◌, ◌%◌, ◌^◌, drop, if◌then◌else◌, ◌==◌, nat_eq, nat_le}
use Rattle.solids.specs.Solids.{solid_of, faces}
use Rattle.codes.specs.Places.{place, past, code_at, base, child_code}

abbrev pub children : ℕ → List ℕ
children c = child_code c 0 ∷ child_code c 1 ∷ child_code c 2 ∷ child_code c 3 ∷ []

-- "Fresh: all faces of a solid in order": of the k faces from f on, those in Q
abbrev pub faces_from : ℕ → ℕ → ℕ → ℕ → List ℕ
faces_from S Q f zero = []
faces_from S Q f (suc k) = (if Q / 2 ^ f % 2 == 1 then code_at (base S + f * 2 ^ 52) 0 ∷ [] else []) ++ faces_from S Q (f + 1) k

abbrev pub fresh_leaves : ℕ → ℕ → List ℕ
fresh_leaves S Q = faces_from S Q 0 (faces (solid_of S))

abbrev pub expanded : (ℕ → Bool) → List ℕ → List ℕ
expanded A [] = []
expanded A (x ∷ L) = (if A x then children x else x ∷ []) ++ expanded A L

-- "Refine a leaf: its four children stand in its place, later leaves move up three slots"
abbrev pub refined : ℕ → List ℕ → List ℕ
refined a L = expanded (nat_eq a) L

-- "Coarsen a cell: its four children become that one leaf, later leaves move down three"
abbrev pub coarsened : ℕ → List ℕ → List ℕ
coarsened c [] = []
coarsened c (x ∷ L) = if child_code c 0 == x then c ∷ drop 3 L else x ∷ coarsened c L

-- "the leaves equal to or inside that cell"
abbrev pub under : ℕ → List ℕ → List ℕ
under c [] = []
under c (x ∷ L) = if nat_le (place c) (place x) && nat_le (past x) (past c) then x ∷ under c L else under c L
