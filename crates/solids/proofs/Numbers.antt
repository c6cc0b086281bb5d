-- Solids and their numbers.
-- Assumes nothing.
use mathlib.Core.Path.{◌≡◌, refl}
use Prim.Native.Nat.{ℕ, zero, suc, ◌≤◌}
use native.Mathlib.Omega.{arith}
use Rattle.solids.specs.Solids.{Solid, tetrahedron, octahedron, icosahedron, Known, solid_no, solid_of, faces}

pub solid_of-solid_no : (so : Solid) → solid_of (solid_no so) ≡ so
solid_of-solid_no tetrahedron = refl
solid_of-solid_no octahedron = refl
solid_of-solid_no icosahedron = refl

pub solid_no-solid_of : (s : ℕ) → Known s → solid_no (solid_of s) ≡ s
solid_no-solid_of zero h = absurd (omega (arith, h.0))
solid_no-solid_of (suc zero) h = refl
solid_no-solid_of (suc (suc zero)) h = refl
solid_no-solid_of (suc (suc (suc zero))) h = refl
solid_no-solid_of (suc (suc (suc (suc n)))) h = absurd (omega (arith, h.1))

pub solid_known : (so : Solid) → Known (solid_no so)
solid_known tetrahedron = (omega arith, omega arith)
solid_known octahedron = (omega arith, omega arith)
solid_known icosahedron = (omega arith, omega arith)

pub faces_few : (so : Solid) → faces so ≤ 20
faces_few tetrahedron = omega arith
faces_few octahedron = omega arith
faces_few icosahedron = omega arith
