-- What a sound mesh is. S is the number of its solid, Q the set of its faces.
--
--   Held L g      == the cell of depth 26 at the place g lies in exactly one of the leaves L
--   Covers S Q L  == the leaves are codes of the solid, ascend, and cover the faces of Q: every finest cell there lies in
--                    exactly one leaf, and no leaf lies elsewhere
--   Meets a s b   == side s of a and a side of b share a stretch
--   Level L       == leaves that share a stretch of a side differ by at most one level
--   Mesh S Q L    == the leaves L are those of a sound mesh
--   Sound S Q xs  == the slots xs hold such a mesh
--   SoundIn Q xs  == the same, of the solid of the first slot
use Rattle.std.specs.Prelude.{List, ◌≡◌, ℕ, ◌+◌, ◌<◌, ◌≤◌, length, slice_index}
use Rattle.solids.specs.Triangles.{side_of}
use Rattle.geometry.specs.Neighbours.{Neighbour}
use Rattle.codes.specs.Codes.{solid, depth, IsCode, cell_of}
use Rattle.codes.specs.Places.{place, code_at, base, end, CodeOn}
use Rattle.soundness.specs.Regions.{InFaces, FaceSet}
use Rattle.soundness.specs.Leaves.{Leaf, Ascends, leaves, pad, Holds}

pub record Held (L : List ℕ) (g : ℕ) : Type 0 where
  pub leaf : ℕ
  pub is : Leaf L leaf
  pub holds : Holds leaf g
  pub only : (y : ℕ) → Leaf L y → Holds y g → y ≡ leaf

-- "every leaf is a well-formed code of the same solid, codes ascend strictly, every depth-26 cell of the solid lies in
-- exactly one leaf"
pub record Covers (S Q : ℕ) (L : List ℕ) : Type 0 where
  pub cells : (x : ℕ) → Leaf L x → CodeOn S x
  pub ascend : Ascends L
  pub cover : (g : ℕ) → base S ≤ g → g < end S → InFaces Q g → Held L g
  pub only : (x : ℕ) → Leaf L x → InFaces Q (place x)

-- A stretch of a side is made of sides of finest cells. So a stretch is shared where a finest cell in a and a finest cell
-- outside a, in b, are neighbours by the corner rule. Where a finest cell is left over its side s into another cell than a, that
-- side lies on side s of a: cells along a side have a's own way up (`within` and `edge` of steps/specs/Edges).
pub record Meets (a s b : ℕ) : Type 0 where
  pub finest : ℕ
  pub beyond : ℕ
  pub inside : Holds a finest
  pub across : Holds b beyond
  pub outside : Holds a beyond → ⊥
  pub code : IsCode (code_at beyond 26)
  pub corners : Neighbour (side_of s) (cell_of (code_at finest 26)) (cell_of (code_at beyond 26))

-- "leaves that share a stretch of a side differ by at most one level"
abbrev pub Level : List ℕ → Type 0
Level L = (a s b : ℕ) → Leaf L a → Leaf L b → s < 3 → Meets a s b → (depth a ≤ depth b + 1) × (depth b ≤ depth a + 1)

-- "there is at least one leaf"
pub record Mesh (S Q : ℕ) (L : List ℕ) : Type 0 where
  pub some : 0 < length L
  pub covers : Covers S Q L
  pub level : Level L

-- "A mesh is a lent slice of 64-bit slots, at most 8,192. [..] It is sound when that form holds [..]."
pub record Sound (S Q : ℕ) (xs : List ℕ) : Type 0 where
  pub region : FaceSet S Q
  pub short : length xs ≤ 8192
  pub form : xs ≡ pad (length xs) (leaves xs)
  pub mesh : Mesh S Q (leaves xs)

abbrev pub SoundIn : ℕ → List ℕ → Type 0
SoundIn Q xs = Sound (solid (slice_index xs 0)) Q xs
