-- The search over leaves and their sides, one side more and one leaf more; a leaf that is the first of the mesh ends it.
--
--   Seen L small A i s b == b is in the way by a side before side s of the leaf i of A
--   seen_none            == before the first side
--   seen_pass, seen_more == one side more, with nothing in the way, and with a leaf in the way
--   seen_row, seen_all   == a leaf done, all leaves done
--   first_least          == no leaf is less than the first
--
use mathlib.Core.Bool.{Bool}
use mathlib.Core.List.{List, [], ◌∷◌}
use mathlib.Core.Logic.{◌⊎◌, inl, inr, ⊎_elim}
use mathlib.Core.Path.{◌≡◌, refl, ◌∙◌, subst}
use Prim.Native.Nat.{ℕ, zero, suc, ◌+◌, ◌<◌, ◌≤◌}
use native.Mathlib.Omega.{arith}
use lib.ListN.{length, get_or}
use Rattle.std.proofs.Common.{min, Option, None, MatchOption}
use Rattle.std.proofs.Common as std
use Rattle.std.proofs.lemmas.List.{get_or_default}
use Rattle.solids.specs.Triangles.{left, right, vertical, side_no}
use Rattle.soundness.specs.Leaves.{Ascends}
use Rattle.soundness.specs.Sides.{MetIs}
use Rattle.soundness.specs.declared.Met.{Met}
use Rattle.soundness.proofs.Cells.{le_or_lt}
use Rattle.soundness.proofs.Leaves.{at_leaf, asc_le}
use Rattle.sides.specs.Sides.{Stands, InTheWay, candidate_of, Blocker}
use Rattle.sides.proofs.Candidates.{least_of_side}
use Rattle.sides.proofs.Least.{blocker_same, blocker_left, blocker_either}

pub record Seen (L : List ℕ) (small : Bool) (A : List ℕ) (i s b : ℕ) : Type 0 where
  pub at : ℕ
  pub side : ℕ
  pub low : side < 3
  pub before : (at < i) ⊎ ((at ≡ i) × (side < s))
  pub stands : Stands L small (get_or A at 0) side b

module _ (L : List ℕ) (small : Bool) (A : List ℕ) where
  pub seen_none : Blocker (Seen L small A 0 0) None
  seen_none = λ q. ⊎_elim (λ h. omega arith) (λ h. omega (arith, h.1)) q.is.before

  one_more : (i s x : ℕ) → Seen L small A i (s + 1) x → Seen L small A i s x ⊎ Stands L small (get_or A i 0) s x
  one_more i s x p =
      ⊎_elim
      (λ h. inl (record { at = p.at; side = p.side; low = p.low; before = inl h; stands = p.stands }))
      (λ h. ⊎_elim
      (λ (k : s ≤ p.side).
      let e : p.side ≡ s = omega (arith, h.1) in
      inr (subst (λ (t : ℕ). Stands L small (get_or A i 0) t x) e (subst (λ (j : ℕ). Stands L small (get_or A j 0) p.side x) h.0 p.stands)))
      (λ (k : p.side < s). inl (record { at = p.at; side = p.side; low = p.low; before = inr (h.0, k); stands = p.stands }))
      (le_or_lt s p.side))
      p.before

  module _ (i s : ℕ) (l : s < 3) where
    seen : (x : ℕ) → Seen L small A i s x → Seen L small A i (s + 1) x
    seen x p = record {
      at = p.at;
      side = p.side;
      low = p.low;
      before = ⊎_elim (λ h. inl h) (λ h. inr (h.0, omega (arith, h.1))) p.before;
      stands = p.stands;
    }

    now : (x : ℕ) → Stands L small (get_or A i 0) s x → Seen L small A i (s + 1) x
    now x q = record { at = i; side = s; low = l; before = inr (refl, omega arith); stands = q }

    pub seen_pass : (a : Option ℕ) → Blocker (Seen L small A i s) a → Blocker (Stands L small (get_or A i 0) s) None → Blocker (Seen L small A i (s + 1)) a
    seen_pass a B n = blocker_left (Seen L small A i s) (Stands L small (get_or A i 0) s) (Seen L small A i (s + 1)) seen now (one_more i s) a n B

    pub seen_more : (a : Option ℕ) (b r : ℕ) → Blocker (Seen L small A i s) a → Blocker (Stands L small (get_or A i 0) s) (std.Some b) →
        MatchOption a (r ≡ b) (λ v. r ≡ min v b) → Blocker (Seen L small A i (s + 1)) (std.Some r)
    seen_more = blocker_either (Seen L small A i s) (Stands L small (get_or A i 0) s) (Seen L small A i (s + 1)) seen now (one_more i s)

  pub seen_row : (i s : ℕ) (r : Option ℕ) → 3 ≤ s → Blocker (Seen L small A i s) r → Blocker (Seen L small A (i + 1) 0) r
  seen_row i s r h =
      blocker_same (Seen L small A i s) (Seen L small A (i + 1) 0) r
      (λ x p. record {
        at = p.at;
        side = p.side;
        low = p.low;
        before = inl (⊎_elim (λ k. omega arith) (λ k. omega (arith, k.0)) p.before);
        stands = p.stands;
      })
      (λ x p. record { at = p.at; side = p.side; low = p.low; before = earlier p.at p.side p.low p.before; stands = p.stands })
    where
      earlier : (at side : ℕ) → side < 3 → (at < i + 1) ⊎ ((at ≡ i + 1) × (side < 0)) → (at < i) ⊎ ((at ≡ i) × (side < s))
      earlier at side l (inl k) = ⊎_elim (λ (m : i ≤ at). inr (omega arith, omega arith)) (λ (m : at < i). inl m) (le_or_lt i at)
      earlier at side l (inr k) = absurd (omega (arith, k.1))

  pub seen_all : (i : ℕ) (r : Option ℕ) → i ≤ length A → length A ≤ i → Blocker (Seen L small A i 0) r → Blocker (InTheWay L small A) r
  seen_all i r l h =
      blocker_same (Seen L small A i 0) (InTheWay L small A) r
      (λ x p. record {
        at = p.at;
        within = ⊎_elim (λ k. omega arith) (λ k. absurd (omega (arith, k.1))) p.before;
        side = p.side;
        low = p.low;
        stands = p.stands;
      })
      (λ x p. record { at = p.at; side = p.side; low = p.low; before = inl (omega (arith, p.within)); stands = p.stands })

pub same_side : (s : ℕ) → s < 3 → side_no (get_or (left ∷ right ∷ vertical ∷ []) s left) ≡ s
same_side zero l = refl
same_side (suc zero) l = refl
same_side (suc (suc zero)) l = refl
same_side (suc (suc (suc n))) l = absurd (omega arith)

-- of what one side of one of the leaves meets
pub one_side : (L : List ℕ) (small : Bool) (A : List ℕ) (i s x : ℕ) (m : Met) (r : Option ℕ) → i < length A → s < 3 → x ≡ get_or A i x →
    MetIs L x (side_no (get_or (left ∷ right ∷ vertical ∷ []) s left)) m → r ≡ candidate_of small m → Blocker (Stands L small (get_or A i 0) s) r
one_side L small A i s x m r l k e h f =
    let y : x ≡ get_or A i 0 = e ∙ get_or_default A i x 0 l in
    let n = subst (λ (a : ℕ). MetIs L a s m) y (subst (λ (t : ℕ). MetIs L x t m) (same_side s k) h) in
    least_of_side L (get_or A i 0) s small m r n f

-- no leaf is less than the first
pub first_least : (L : List ℕ) (small : Bool) (A : List ℕ) (i s b : ℕ) → Ascends L → i < length A → s < 3 → b ≡ get_or L 0 0 →
    Blocker (Stands L small (get_or A i 0) s) (std.Some b) → Blocker (InTheWay L small A) (std.Some b)
first_least L small A i s b a l k e B = record {
  is = record { at = i; within = l; side = s; low = k; stands = B.is };
  least = λ x q. let r = at_leaf L x q.stands.leaf in omega (arith, r.is, asc_le L a 0 r.at (omega arith) r.low);
}
