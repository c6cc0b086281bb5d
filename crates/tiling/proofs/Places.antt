-- Places by words: the next face, the digits after the last, the ends of a solid.
use mathlib.Core.Logic.{◌⊎◌, inl, inr, ⊎_elim}
use mathlib.Core.Path.{◌≡◌, refl, ap, sym, ◌∙◌, subst}
use Prim.Native.Nat.{ℕ, ◌+◌, ◌-◌, ◌*◌, ◌/◌, ◌%◌, ◌^◌, ◌<◌, ◌≤◌, max}
use native.Mathlib.Nat.{mul-mod_left}
use native.Mathlib.Omega.{arith}
use Rattle.std.proofs.Math.Nat.{max-eq_left, max-eq_right, le-max_left, le-max_right}
use borrow.Author.Tests.{eqb-true, eqb-false}
use lib.Bits.{bit_and, and_mask}
use lib.Dec.{eqb}
use lib.Pow.{pow_mono}
use Rattle.solids.specs.Solids.{Known, solid_of, faces}
use Rattle.solids.proofs.Numbers.{faces_few}
use Rattle.refusals.specs.Answers.{Tells}
use Rattle.codes.specs.Codes.{depth, size}
use Rattle.codes.specs.Places.{place, base, end}
use Rattle.codes.proofs.Sizes.{size_pos, size_two}
use Rattle.soundness.specs.Regions.{InFaces}
use Rattle.soundness.specs.Inner.{Gap}
use Rattle.soundness.proofs.Cells.{le_or_lt}
use Rattle.tiling.specs.Tiling.{Skipped, Begins}

-- the face of p is not in the set: nothing of the set up to the next face
pub face_gap : (Q p : ℕ) → (InFaces Q p → ⊥) → Gap Q p ((p / 2 ^ 52 + 1) * 2 ^ 52)
unfolding InFaces
face_gap Q p n =
    record {
      to = omega arith;
      none = λ g l h i.
          let e : g / 2 ^ 52 ≡ p / 2 ^ 52 = omega arith in
          n (subst (λ (f : ℕ). Q / 2 ^ (f % 32) % 2 ≡ 1) e i);
    }

-- the face of the number k, whose last five bits are the face's own, is in the set
abbrev pub HasFace : ℕ → ℕ → Type 0
HasFace Q k = Q / 2 ^ (k % 32) % 2 ≡ 1

-- by its first place
same_face : (k : ℕ) → k * 2 ^ 52 % 2 ^ 64 / 2 ^ 52 % 32 ≡ k % 32
same_face k = omega arith

pub has_face : (Q k : ℕ) → InFaces Q (k * 2 ^ 52 % 2 ^ 64) → HasFace Q k
unfolding InFaces
has_face Q k i = subst (λ (f : ℕ). Q / 2 ^ f % 2 ≡ 1) (same_face k) i

pub face_has : (Q k : ℕ) → HasFace Q k → InFaces Q (k * 2 ^ 52 % 2 ^ 64)
unfolding InFaces
face_has Q k i = subst (λ (f : ℕ). Q / 2 ^ f % 2 ≡ 1) (sym (same_face k)) i

-- from g on up to the end, by the faces: their numbers have the solid's above them
module _ (Q e g : ℕ) (upto : g ≤ e) (whole : e % 2 ^ 52 ≡ 0) where
  -- none of them is in the set
  pub skip_none : ((k : ℕ) → g / 2 ^ 52 ≤ k → k < e / 2 ^ 52 → HasFace Q k → ⊥) → Skipped Q e g e
  unfolding InFaces
  skip_none n = record {
    gap = record { to = upto; none = λ p l h i. n (p / 2 ^ 52) (omega arith) (omega arith) i };
    upto = omega arith;
    there = inl refl;
  }

  -- the first that is
  pub skip_some : (f : ℕ) → g / 2 ^ 52 ≤ f → f < e / 2 ^ 52 → HasFace Q f →
      ((k : ℕ) → g / 2 ^ 52 ≤ k → k < f → HasFace Q k → ⊥) → Skipped Q e g (max g (f * 2 ^ 52))
  unfolding InFaces
  skip_some f l h q n =
      let r : ℕ = max g (f * 2 ^ 52) in
      let m : (r ≡ g) ⊎ (r ≡ f * 2 ^ 52) =
      ⊎_elim (λ (u : g ≤ f * 2 ^ 52). inr (max-eq_right u)) (λ (u : f * 2 ^ 52 < g). inl (max-eq_left (omega arith))) (le_or_lt g (f * 2 ^ 52)) in
      let a = le-max_left g (f * 2 ^ 52) in
      let b = le-max_right g (f * 2 ^ 52) in
      let d : r / 2 ^ 52 ≡ f = ⊎_elim (λ u. omega arith) (λ u. omega arith) m in
      record {
        gap = record { to = a; none = λ p s t i. n (p / 2 ^ 52) (omega arith) (⊎_elim (λ u. omega arith) (λ u. omega arith) m) i };
        upto = ⊎_elim (λ u. omega arith) (λ u. omega arith) m;
        there = inr (subst (HasFace Q) (sym d) q);
      }

pub size_bits : (d : ℕ) → d ≤ 26 → 1 * 2 ^ (52 - 2 * d) % 2 ^ 64 ≡ size d
size_bits d h =
    let l : 2 ^ (52 - 2 * d) ≤ 2 ^ 52 = pow_mono {i = 52 - 2 * d} {j = 52} (omega arith) in
    omega (arith, size_two d h)

pub some_places : {k : ℕ} (d : ℕ) → k ≡ size d → 0 < k
some_places {k} d e = omega (arith, size_pos d)

-- the mask of the digits after the last
tail_mask : (g d k : ℕ) → d ≤ 26 → k ≡ size d → bit_and g (k - 1) ≡ g % size d
tail_mask g d k h e =
    let t : k ≡ 2 ^ (52 - 2 * d) = e ∙ size_two d h in
    ap (λ (m : ℕ). bit_and g (m - 1)) t ∙ and_mask g (52 - 2 * d) ∙ ap (λ (m : ℕ). g % m) (sym (size_two d h))

pub begins_test : (x g k : ℕ) → place x ≡ g → depth x ≤ 26 → k ≡ size (depth x) → Tells (eqb (bit_and g (k - 1)) 0) (Begins x g)
begins_test x g k e h s =
    let t : bit_and g (k - 1) ≡ place x % size (depth x) = tail_mask g (depth x) k h s ∙ ap (λ (m : ℕ). m % size (depth x)) (sym e) in
    record {
      yes = λ b. record { at = e; deep = h; tail = sym t ∙ eqb-true (bit_and g (k - 1)) 0 b };
      no = λ b w. eqb-false (bit_and g (k - 1)) 0 b (t ∙ w.tail);
    }

pub end_facts : (S e : ℕ) → Known S → e ≡ end S → (base S ≤ e) × (e < 2 ^ 60) × (e % 2 ^ 52 ≡ 0)
end_facts S e h k =
    let f : ℕ = faces (solid_of S) in
    let m : e ≡ (S * 32 + f) * 2 ^ 52 = omega arith in
    (omega arith, omega (arith, faces_few (solid_of S), h.1), ap (λ (n : ℕ). n % 2 ^ 52) m ∙ mul-mod_left (S * 32 + f) (2 ^ 52))

-- the ends of a solid, from its number and the number of its faces
pub ends : (S f : ℕ) → Known S → f ≡ faces (solid_of S) → (S * 2 ^ 57 % 2 ^ 64 ≡ base S) × (S * 2 ^ 57 % 2 ^ 64 + f * 2 ^ 52 % 2 ^ 64 ≡ end S)
ends S f h e = let b : S * 2 ^ 57 % 2 ^ 64 ≡ base S = omega (arith, h.1) in (b, omega (arith, faces_few (solid_of S)))
