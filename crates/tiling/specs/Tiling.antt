-- What the linear pass over the slots xs tells; S is the number of the solid, Q the set of faces.
--
--   Skipped Q e g r == r is the first place of the faces Q from g on, or e if there is none below e
--   Begins x g      == x is the code of a cell that begins at the place g
--   Counts S Q xs r == the first r slots tile the faces Q; if r is 0, no first slots do
--   Tiled Q L       == the leaves L tile the faces Q of some solid
--   TilesAre, TilesTried S Q xs t
--                   == t are the first slots that tile the faces Q, or t is nothing, and no first slots do
use Rattle.std.specs.Prelude.{Option, Some, None, List, ◌⊎◌, ◌≡◌, ℕ, ◌%◌, ◌<◌, ◌≤◌, length, take}
use Rattle.codes.specs.Codes.{depth, size}
use Rattle.codes.specs.Places.{place}
use Rattle.soundness.specs.Regions.{InFaces}
use Rattle.soundness.specs.Inner.{Gap, Tiling}
use Rattle.soundness.specs.Meshes.{Meshed}

pub record Skipped (Q e g r : ℕ) : Type 0 where
  pub gap : Gap Q g r
  pub upto : r ≤ e
  pub there : (r ≡ e) ⊎ InFaces Q r

-- of whatever solid the place is; "The path bits after the last digit are zero. Depth is 0 to 26."
pub record Begins (x g : ℕ) : Type 0 where
  pub at : place x ≡ g
  pub deep : depth x ≤ 26
  pub tail : place x % size (depth x) ≡ 0

pub record Counts (S Q : ℕ) (xs : List ℕ) (r : ℕ) : Type 0 where
  pub upto : r ≤ length xs
  pub some : 0 < r → Tiling S Q (take r xs)
  pub none : r ≡ 0 → (m : ℕ) → 0 < m → m ≤ length xs → Tiling S Q (take m xs) → ⊥

pub record Tiled (Q : ℕ) (L : List ℕ) : Type 0 where
  pub solid : ℕ
  pub tiling : Tiling solid Q L

-- the tiles are the first slots, and there is one
pub record TilesAre (S Q : ℕ) (xs : List ℕ) (t : Meshed) : Type 0 where
  pub counts : Counts S Q xs (length t.leaves)
  pub some : 0 < length t.leaves
  pub first : t.leaves ≡ take (length t.leaves) xs
  pub faces : t.faces ≡ Q

abbrev pub TilesTried : ℕ → ℕ → List ℕ → Option Meshed → Type 0
TilesTried S Q xs (Some t) = TilesAre S Q xs t
TilesTried S Q xs None = Counts S Q xs 0
