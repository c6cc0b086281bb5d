-- There is no third cell at a side: of a cell, another one and a third of the same solid and depth, all with both end
-- corners of the first one's side, the third is the first or the second. By which of the three are upright: two cells that
-- are not settled by proofs/Pairs lie on the two faces that meet at the side.
--
--   Ends s c g es == the cell of face g and path es, of c's solid, has both end corners of side s of c
--
-- Assumes nothing.
use mathlib.Core.Bool.{Bool, true, false}
use mathlib.Core.List.{List}
use mathlib.Core.Logic.{◌≢◌, ◌⊎◌, inl, inr}
use mathlib.Core.Path.{◌≡◌, refl, ap, sym, ◌∙◌}
use Prim.Native.Nat.{ℕ}
use lib.ListN.{length}
use Rattle.solids.specs.Triangles.{Side, left, right, vertical, tip, lft, rgt, end₀, end₁}
use Rattle.solids.specs.Solids.{vertex, next_face}
use Rattle.geometry.specs.Corners.{Digit, upright}
use Rattle.geometry.specs.Cells.{Cell, cell, WellFormed, depth_of, corner}
use Rattle.geometry.specs.Neighbours.{Has}
use Rattle.geometry.proofs.Faces.{apart, corner_on, two_faces}
use Rattle.geometry.proofs.CornerWeights.{place_single}
use Rattle.geometry.proofs.Pairs.{Both, swap, ups_vertex, mixed_face, ups_cell, downs_cell}

abbrev pub Ends : Side → Cell → ℕ → List Digit → Type 0
Ends s c g es = Both c.solid (corner c (end₀ s)) (corner c (end₁ s)) g es

ends_apart : (s : Side) → end₀ s ≢ end₁ s
ends_apart left = apart tip lft refl
ends_apart right = apart tip rgt refl
ends_apart vertical = apart lft rgt refl

-- the places at which a cell has the ends of a side are different, as the ends are
pub has_ends : (s : Side) (c : Cell) → WellFormed c → (g : ℕ) (es : List Digit) → WellFormed (cell c.solid g es) →
    Has s c (cell c.solid g es) → Ends s c g es
has_ends s c h g es k w = record {
  low = k;
  p = w.at₀;
  q = w.at₁;
  apart = λ e. ends_apart s
      (place_single c h (end₀ s) (end₁ s) (sym w.same₀ ∙ ap (corner (cell c.solid g es)) e ∙ w.same₁));
  is_a = w.same₀;
  is_b = w.same₁;
}

module _ (s : Side) (c : Cell) (h : WellFormed c) {g k : ℕ} {es zs : List Digit} (y : Ends s c g es) (z : Ends s c k zs)
    (n : depth_of c ≡ length es) (m : depth_of c ≡ length zs) (other : cell c.solid g es ≢ c) where
  abbrev x : Ends s c c.face c.path
  x = record { low = h; p = end₀ s; q = end₁ s; apart = ends_apart s; is_a = refl; is_b = refl }

  -- an upright cell, where c is upright, is on one of the two faces at the side
  abbrev AtSide : ℕ → Type 0
  AtSide i = (i ≡ c.face) ⊎ (i ≡ next_face c.solid s c.face)

  at_side : {i : ℕ} {us : List Digit} → Ends s c i us → upright c.path ≡ true → upright us ≡ true → AtSide i
  at_side {i} w u t =
      two_faces c.solid c.face i h w.low s
      (corner_on c.solid i (vertex c.solid c.face (end₀ s)) w.p (ups_vertex x w u t))
      (corner_on c.solid i (vertex c.solid c.face (end₁ s)) w.q (ups_vertex (swap x) (swap w) u t))

  abbrev Goal : Type 0
  Goal = (cell c.solid k zs ≡ c) ⊎ (cell c.solid k zs ≡ cell c.solid g es)

  pub third : Goal
  third = go (upright c.path) refl (upright es) refl (upright zs) refl
    where
      nm : length es ≡ length zs
      nm = sym n ∙ m

      all_up : upright c.path ≡ true → upright es ≡ true → upright zs ≡ true → AtSide g → AtSide k → Goal
      all_up u v w (inl e) r = absurd (other (ups_cell x y n u v e))
      all_up u v w (inr e) (inl r) = inl (ups_cell x z m u w r)
      all_up u v w (inr e) (inr r) = inr (ups_cell y z nm v w (r ∙ sym e))

      go : (a : Bool) → upright c.path ≡ a → (b : Bool) → upright es ≡ b → (d : Bool) → upright zs ≡ d → Goal
      go true u true v true w = all_up u v w (at_side y u v) (at_side z u w)
      go true u true v false w = absurd (other (ups_cell x y n u v (sym (mixed_face y z v w) ∙ mixed_face x z u w)))
      go true u false v true w = inl (ups_cell x z m u w (sym (mixed_face z y w v) ∙ mixed_face x y u v))
      go true u false v false w = inr (downs_cell y z nm v w)
      go false u true v true w = inr (ups_cell y z nm v w (sym (mixed_face z x w u) ∙ mixed_face y x v u))
      go false u true v false w = inl (downs_cell x z m u w)
      go false u false v d w = absurd (other (downs_cell x y n u v))
