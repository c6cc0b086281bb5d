-- Leaves in their slots, and the finest cells that lie in them. The cell of depth 26 at a place is the code code_at g 26.
--
--   Leaf L x   == x is one of the leaves L
--   Ascends L  == each of L is less than all that follow
--   leaves xs  == the leaves in the slots xs: what stands before the first zero
--   pad n L    == the leaves L and then zeros, n slots in all
--   Holds x g  == the cell of depth 26 at the place g lies in the cell x
--   In x c     == the cell x is the cell c or lies inside it
--   Apart x y  == no cell of depth 26 lies in both
use Rattle.std.specs.Prelude.{List, [], ◌∷◌, ◌++◌, ◌⊎◌, ◌≡◌, ℕ, ◌-◌, ◌<◌, ◌≤◌, length, replicate, if◌then◌else◌, ◌==◌}
use Rattle.codes.specs.Places.{place, past}

abbrev pub Leaf : List ℕ → ℕ → Type 0
Leaf [] x = ⊥
Leaf (y ∷ L) x = (x ≡ y) ⊎ Leaf L x

abbrev pub Ascends : List ℕ → Type 0
Ascends [] = Unit {0}
Ascends (x ∷ L) = ((y : ℕ) → Leaf L y → x < y) × Ascends L

-- "Leaves come first, then only zeros."
abbrev pub leaves : List ℕ → List ℕ
leaves [] = []
leaves (x ∷ xs) = if x == 0 then [] else x ∷ leaves xs

abbrev pub pad : ℕ → List ℕ → List ℕ
pad n L = L ++ replicate (n - length L) 0

abbrev pub Holds : ℕ → ℕ → Type 0
Holds x g = (place x ≤ g) × (g < past x)

abbrev pub In : ℕ → ℕ → Type 0
In x c = (place c ≤ place x) × (past x ≤ past c)

abbrev pub Apart : ℕ → ℕ → Type 0
Apart x y = (past x ≤ place y) ⊎ (past y ≤ place x)
