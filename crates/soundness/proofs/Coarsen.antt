-- Coarsening keeps a mesh where no side of the four children meets smaller leaves, and would break it where one does.
--
--   coarsen_mesh    == an unblocked coarsen gives a mesh
--   coarsen_sound   == and sound slots
--   coarsen_blocked == a blocked one would break the levels
--
-- Assumes nothing.
use mathlib.Core.List.{List, [], ◌∷◌}
use mathlib.Core.Logic.{◌⊎◌, inl, inr, ⊎_elim}
use mathlib.Core.Path.{◌≡◌, sym, ◌∙◌, ap, subst}
use Prim.Native.Nat.{ℕ, ◌+◌, ◌<◌, ◌≤◌}
use native.Mathlib.Omega.{arith}
use lib.ListN.{length}
use Rattle.codes.specs.Codes.{depth}
use Rattle.codes.specs.Places.{CodeOn, child_code}
use Rattle.steps.specs.Edges.{back_no, StepLaws}
use Rattle.steps.proofs.Laws.{back<}
use Rattle.soundness.specs.Leaves.{Leaf, leaves, pad}
use Rattle.soundness.specs.Soundness.{Covers, Meets, Level, Mesh, Sound}
use Rattle.soundness.specs.Changes.{coarsened}
use Rattle.soundness.specs.Sides.{BlocksCoarsen, Some}
use Rattle.soundness.proofs.Cells.{le_or_lt, depth_child, child_in}
use Rattle.soundness.proofs.Leaves.{leaves_apart}
use Rattle.soundness.proofs.Fresh.{leaves_le, pad_sound}
use Rattle.soundness.proofs.Meets.{meets_not_self, meets_wider, meets_child, meets_to_child}
use Rattle.soundness.proofs.Sides.{meets_back}
use Rattle.soundness.proofs.Level.{OneWay, meets_apart, both_ways}
use Rattle.soundness.proofs.Coarsened.{coarsen_leaf, coarsen_cases, coarsen_old, coarsen_length, coarsen_covers}

leaf_some : (L : List ℕ) (x : ℕ) → Leaf L x → 0 < length L
leaf_some [] x m = absurd m
leaf_some (y ∷ L) x m = omega arith

module _ (S Q c : ℕ) (L : List ℕ) (M : Mesh S Q L) (w : CodeOn S c) (d : depth c < 26)
    (four : (q : ℕ) → q < 4 → Leaf L (child_code c q)) where
  covers_c : Covers S Q (coarsened c L)
  covers_c = coarsen_covers S Q L M.covers c d four w

  leaf_c : Leaf (coarsened c L) c
  leaf_c = coarsen_leaf S Q L M.covers c d four

  pub coarsen_blocked : Some (BlocksCoarsen L c) → Level (coarsened c L) → ⊥
  coarsen_blocked v f =
      let b = v.one in
      let r = v.is in
      let k = child_code c r.digit in
      let mb = coarsen_old S Q L M.covers c d four b r.leaf (λ p h e. omega (arith, ap depth e, depth_child c p d, r.smaller)) in
      let apart = leaves_apart S Q (coarsened c L) covers_c c b leaf_c mb (λ e. omega (arith, ap depth e, r.smaller)) in
      let m = meets_wider k c r.side b (child_in c r.digit d r.four) apart r.meets in
      omega (arith, (f c r.side b leaf_c mb r.low m).1, r.smaller)

  module _ (step : ℕ → ℕ → ℕ) (N : StepLaws S step) where
    -- a child of c meets what c meets, and is met by what meets c
    coarsen_one_way : (Some (BlocksCoarsen L c) → ⊥) → OneWay (coarsened c L)
    coarsen_one_way free x s y mx my l m =
        let cases = coarsen_cases S Q L M.covers c d four in
        go (cases x mx) (cases y my)
      where
        from_c : Leaf L y → Meets c s y → depth c ≤ depth y + 1
        from_c oy n =
            let k = meets_child c s y d n in
            let q = k.digit in
            omega (arith, (M.level (child_code c q) s y (four q k.four) oy l k.is).0, depth_child c q d)

        to_c : Leaf L x → Meets x s c → depth x ≤ depth c + 1
        to_c ox n =
            let k = meets_to_child x s c d n in
            let q = k.digit in
            let apart = meets_apart S Q L M.covers x s (child_code c q) ox (four q k.four) k.is in
            let b = meets_back S step N x s (child_code c q) l (M.covers.cells x ox) apart k.is in
            ⊎_elim
            (λ (h : depth x ≤ depth c + 1). h)
            (λ (h : depth c + 1 < depth x).
            let blocks : BlocksCoarsen L c x =
            record { leaf = ox; digit = q; four = k.four; side = back_no s; low = back< s; meets = b; smaller = h } in
            absurd (free (record { one = x; is = blocks })))
            (le_or_lt (depth x) (depth c + 1))

        go : (x ≡ c) ⊎ Leaf L x → (y ≡ c) ⊎ Leaf L y → depth x ≤ depth y + 1
        go (inl e) (inl f) = absurd (meets_not_self x s y m (f ∙ sym e))
        go (inl e) (inr o) = subst (λ (z : ℕ). depth z ≤ depth y + 1) (sym e) (from_c o (subst (λ (z : ℕ). Meets z s y) e m))
        go (inr o) (inl f) = subst (λ (z : ℕ). depth x ≤ depth z + 1) (sym f) (to_c o (subst (λ (z : ℕ). Meets x s z) f m))
        go (inr o) (inr o') = (M.level x s y o o' l m).0

    pub coarsen_mesh : (Some (BlocksCoarsen L c) → ⊥) → Mesh S Q (coarsened c L)
    coarsen_mesh free = record {
      some = leaf_some (coarsened c L) c leaf_c;
      covers = covers_c;
      level = both_ways S Q step N (coarsened c L) covers_c (coarsen_one_way free);
    }

pub coarsen_sound : (S Q : ℕ) (step : ℕ → ℕ → ℕ) → StepLaws S step → (c : ℕ) (xs : List ℕ) → Sound S Q xs →
    CodeOn S c → depth c < 26 → ((q : ℕ) → q < 4 → Leaf (leaves xs) (child_code c q)) → (Some (BlocksCoarsen (leaves xs) c) → ⊥) →
    Sound S Q (pad (length xs) (coarsened c (leaves xs)))
coarsen_sound S Q step N c xs s w d four free =
    let L = leaves xs in
    let n = coarsen_length S Q L s.mesh.covers c d four in
    let room : length (coarsened c L) ≤ length xs = omega (arith, leaves_le xs) in
    pad_sound S Q (length xs) (coarsened c L) s.region s.short room (coarsen_mesh S Q c L s.mesh w d four step N free)
