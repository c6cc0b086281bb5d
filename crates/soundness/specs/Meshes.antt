-- A sound mesh as one value.
--
--   Meshed     == the faces of a mesh, and its leaves
--   MeshOf Q L == the leaves L are those of a sound mesh of the faces Q, of some solid
use Rattle.std.specs.Prelude.{List, ℕ}
use Rattle.soundness.specs.Soundness.{Mesh}

pub record Meshed : Type 0 where
  pub faces : ℕ
  pub leaves : List ℕ

pub record MeshOf (Q : ℕ) (L : List ℕ) : Type 0 where
  pub solid : ℕ
  pub mesh : Mesh solid Q L
