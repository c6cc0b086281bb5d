-- Refining keeps a mesh where no larger leaf is over a side of the leaf, and would break it where one is.
--
--   Closed L A     == with each leaf, the set A has the larger leaves over its sides
--   expand_level   == the leaves of a closed set may be replaced by their children at once
--   refine_mesh    == an unblocked refine gives a mesh
--   refine_sound   == and sound slots, where there is room for it
--   refine_blocked == a blocked one would break the levels
--
-- Assumes nothing.
use mathlib.Core.Bool.{Bool, true, true≢false}
use mathlib.Core.List.{List}
use mathlib.Core.Logic.{◌⊎◌, inl, inr, ⊎_elim}
use mathlib.Core.Path.{◌≡◌, refl, sym, ◌∙◌, ap, subst}
use Prim.Native.Nat.{ℕ, ◌+◌, ◌<◌, ◌≤◌}
use native.Mathlib.Omega.{arith}
use lib.Dec.{eqb}
use lib.ListN.{length}
use borrow.Author.Tests.{eqb-true, eq-eqb, ne_eqb}
use Rattle.codes.specs.Codes.{depth}
use Rattle.codes.specs.Places.{child_code}
use Rattle.steps.specs.Edges.{StepLaws}
use Rattle.soundness.specs.Leaves.{Leaf, leaves, pad, In, Apart}
use Rattle.soundness.specs.Soundness.{Covers, Meets, Level, Mesh, Sound}
use Rattle.soundness.specs.Changes.{expanded, refined}
use Rattle.soundness.specs.Sides.{BlocksRefine, Some}
use Rattle.soundness.proofs.Cells.{le_or_lt, eq_or_not, depth_child, child_in}
use Rattle.soundness.proofs.Leaves.{leaves_apart}
use Rattle.soundness.proofs.Slots.{refine_length}
use Rattle.soundness.proofs.Fresh.{pad_sound}
use Rattle.soundness.proofs.Meets.{meets_wider, meets_to_wider, meets_child}
use Rattle.soundness.proofs.Level.{OneWay, both_ways}
use Rattle.soundness.proofs.Expanded.{OldOf, KidOf, expand_cases, expand_old, expand_kid, Room, expand_covers, refine_room, refine_covers}

abbrev pub Closed : List ℕ → (ℕ → Bool) → Type 0
Closed L A = (x s y : ℕ) → Leaf L x → A x ≡ true → Leaf L y → s < 3 → Meets x s y → depth y < depth x → A y ≡ true

apart_in : (a b x : ℕ) → In x b → Apart a b → Apart a x
apart_in a b x i (inl h) = inl (omega (arith, i.0))
apart_in a b x i (inr h) = inr (omega (arith, i.1))

module _ (S Q : ℕ) (L : List ℕ) (C : Covers S Q L) (E : Level L) (A : ℕ → Bool) (room : Room L A) where
  kid_in : (z : ℕ) (k : KidOf A L z) → In z k.leaf × (depth z ≡ depth k.leaf + 1)
  kid_in z k =
      let p = k.leaf in
      let q = k.child.digit in
      let d = room p k.is k.taken in
      (subst (λ (t : ℕ). In t p) (sym k.child.is) (child_in p q d k.child.four), ap depth k.child.is ∙ depth_child p q d)

  expand_one_way : Closed L A → OneWay (expanded A L)
  expand_one_way closed x s y mx my l m = go (expand_cases A L x mx) (expand_cases A L y my)
    where
      go : OldOf A L x ⊎ KidOf A L x → OldOf A L y ⊎ KidOf A L y → depth x ≤ depth y + 1
      go (inl o) (inl o') = (E x s y o.is o'.is l m).0
      go (inl o) (inr k) =
          let i = kid_in y k in
          omega (arith, i.1, (E x s k.leaf o.is k.is l (meets_to_wider x s y k.leaf i.0 m)).0)
      go (inr k) (inl o) =
          let p = k.leaf in
          let i = kid_in x k in
          let n : p ≡ y → ⊥ = λ e. true≢false (sym k.taken ∙ ap A e ∙ o.kept) in
          let m' = meets_wider x p s y i.0 (leaves_apart S Q L C p y k.is o.is n) m in
          ⊎_elim
          (λ (h : depth p ≤ depth y). omega (arith, i.1))
          (λ (h : depth y < depth p). absurd (true≢false (sym (closed p s y k.is k.taken o.is l m' h) ∙ o.kept)))
          (le_or_lt (depth p) (depth y))
      go (inr k) (inr k') =
          let p = k.leaf in
          let p' = k'.leaf in
          let i = kid_in x k in
          let i' = kid_in y k' in
          ⊎_elim
          (λ (e : p ≡ p'). omega (arith, i.1, i'.1, ap depth e))
          (λ (n : p ≡ p' → ⊥).
          let far : Apart p y = apart_in p p' y i'.0 (leaves_apart S Q L C p p' k.is k'.is n) in
          let m' = meets_to_wider p s y p' i'.0 (meets_wider x p s y i.0 far m) in
          omega (arith, i.1, i'.1, (E p s p' k.is k'.is l m').0))
          (eq_or_not p p')

module _ (S Q : ℕ) (step : ℕ → ℕ → ℕ) (N : StepLaws S step) (L : List ℕ) where
  pub expand_level : Covers S Q L → Level L → (A : ℕ → Bool) → Room L A → Closed L A → Level (expanded A L)
  expand_level C E A room closed =
      both_ways S Q step N (expanded A L) (expand_covers S Q A L room C) (expand_one_way S Q L C E A room closed)

  pub refine_mesh : (a : ℕ) → Mesh S Q L → Leaf L a → depth a < 26 → (Some (BlocksRefine L a) → ⊥) → Mesh S Q (refined a L)
  refine_mesh a m k d free =
      record {
        some = omega (arith, refine_length L a m.covers.ascend k);
        covers = refine_covers S Q a L d m.covers;
        level = expand_level m.covers m.level (eqb a) (refine_room a L d) (λ x s y mx e my l n h. absurd (blocks x s y e my l n h));
      }
    where
      blocks : (x s y : ℕ) → eqb a x ≡ true → Leaf L y → s < 3 → Meets x s y → depth y < depth x → ⊥
      blocks x s y e my l n h =
          let f : x ≡ a = sym (eqb-true a x e) in
          let n' : Meets a s y = subst (λ (z : ℕ). Meets z s y) f n in
          free (record { one = y; is = record { leaf = my; side = s; low = l; meets = n'; larger = omega (arith, ap depth f) } })

pub refine_sound : (S Q : ℕ) (step : ℕ → ℕ → ℕ) → StepLaws S step → (a : ℕ) (xs : List ℕ) → Sound S Q xs →
    Leaf (leaves xs) a → depth a < 26 → (Some (BlocksRefine (leaves xs) a) → ⊥) → length (leaves xs) + 3 ≤ length xs →
    Sound S Q (pad (length xs) (refined a (leaves xs)))
refine_sound S Q step N a xs s k d free room =
    let L = leaves xs in
    let n = refine_length L a s.mesh.covers.ascend k in
    pad_sound S Q (length xs) (refined a L) s.region s.short (omega arith) (refine_mesh S Q step N L a s.mesh k d free)

pub refine_blocked : (a : ℕ) (L : List ℕ) → Leaf L a → depth a < 26 → Some (BlocksRefine L a) → Level (refined a L) → ⊥
refine_blocked a L ma d w f =
    let b = w.one in
    let r = w.is in
    let ne : a ≡ b → ⊥ = λ e. omega (arith, ap depth e, r.larger) in
    let k = meets_child a r.side b d r.meets in
    let mc = expand_kid (eqb a) L a k.digit ma (eq-eqb a a refl) k.four in
    let mb = expand_old (eqb a) L b r.leaf (ne_eqb a b ne) in
    omega (arith, (f (child_code a k.digit) r.side b mc mb r.low k.is).0, depth_child a k.digit d, r.larger)
