-- Slots joined by or are zero where each of them is, and not otherwise; zeros from an index on; slots cleared, one more downwards.
use Rattle.std.proofs.Common.{◌≡◌, ℕ, zero, suc, ◌+◌, ◌-◌, ◌<◌, ◌≤◌, eqb, List, [], ◌∷◌, ◌++◌, length, get_or, take, drop, set, replicate, sym, refl, ap, ◌∙◌, append_assoc, append-nil, arith, length-drop, length-take-le, get_or-drop, take-suc, ext_get_or, eqb-true}
use borrow.Author.Tests.{eqb-false}
use lib.Bits.{bit_or, or_add_and, and_le_l, and_le_r}
use lib.ListN.{get_or-replicate, length-replicate}
use lib.Seq.{take-length, set_at}
use Rattle.refusals.specs.Answers.{Tells}
use Rattle.slots.specs.Slots.{ZerosFrom, cleared_from}

or_none : (a b : ℕ) → bit_or a b ≡ 0 → (a ≡ 0) × (b ≡ 0)
or_none a b e =
    let s = or_add_and a b in
    (omega (arith, and_le_r a b), omega (arith, and_le_l a b))

abbrev Zeros : List ℕ → Type 0
Zeros [] = Unit {0}
Zeros (y ∷ ys) = (y ≡ 0) × Zeros ys

zeros_last : (ys : List ℕ) (y : ℕ) → Zeros ys → y ≡ 0 → Zeros (ys ++ y ∷ [])
zeros_last [] y z e = (e, tt)
zeros_last (x ∷ ys) y z e = (z.0, zeros_last ys y z.1 e)

last_zero : (ys : List ℕ) (y : ℕ) → Zeros (ys ++ y ∷ []) → Zeros ys × (y ≡ 0)
last_zero [] y z = (tt, z.0)
last_zero (x ∷ ys) y z = let r = last_zero ys y z.1 in ((z.0, r.0), r.1)

zeros_are : (ys : List ℕ) → Zeros ys → ys ≡ replicate (length ys) 0
zeros_are [] z = refl
zeros_are (y ∷ ys) z = ap (λ (k : ℕ). k ∷ ys) z.0 ∙ ap (λ (t : List ℕ). 0 ∷ t) (zeros_are ys z.1)

are_zeros : (n : ℕ) (ys : List ℕ) → ys ≡ replicate n 0 → Zeros ys
are_zeros n [] e = tt
are_zeros zero (y ∷ ys) e = absurd cc
are_zeros (suc n) (y ∷ ys) e = (cc, are_zeros n ys cc)

-- x is the numbers ys, joined
pub record Joined (ys : List ℕ) (x : ℕ) : Type 0 where
  clear : x ≡ 0 → Zeros ys
  none : Zeros ys → x ≡ 0

pub joined_none : Joined [] 0
joined_none = record { clear = λ e. tt; none = λ z. refl }

pub joined_more : (ys : List ℕ) (x y : ℕ) → Joined ys x → Joined (ys ++ y ∷ []) (bit_or x y)
joined_more ys x y j = record {
  clear = λ e. let o = or_none x y e in zeros_last ys y (j.clear o.0) o.1;
  none = λ z. let l = last_zero ys y z in ap (λ (k : ℕ). bit_or k y) (j.none l.0) ∙ ap (bit_or 0) l.1;
}

pub joined_tells : (xs : List ℕ) (n x : ℕ) → Joined (drop n xs) x → Tells (eqb x 0) (ZerosFrom xs n)
joined_tells xs n x j = record {
  yes = λ e. zeros_are (drop n xs) (j.clear (eqb-true x 0 e)) ∙ ap (λ (k : ℕ). replicate {A = ℕ} k 0) (length-drop n xs);
  no = λ e z. eqb-false x 0 e (j.none (are_zeros (length xs - n) (drop n xs) z));
}

module _ (xs : List ℕ) where
  none_left : replicate {A = ℕ} (length xs - length xs) 0 ≡ []
  none_left =
      let e : length xs - length xs ≡ 0 = omega arith in
      ap (λ (k : ℕ). replicate {A = ℕ} k 0) e

  one_more : (i : ℕ) → i < length xs → replicate {A = ℕ} (length xs - i) 0 ≡ 0 ∷ replicate (length xs - suc i) 0
  one_more i h =
      let e : length xs - i ≡ suc (length xs - suc i) = omega arith in
      ap (λ (k : ℕ). replicate {A = ℕ} k 0) e

  pub zeros_all : (n : ℕ) → n ≤ length xs → ((i : ℕ) → i < length xs → n ≤ i → get_or xs i 0 ≡ 0) → ZerosFrom xs n
  zeros_all n l z =
      ext_get_or 0 (drop n xs) (replicate (length xs - n) 0) (length-drop n xs ∙ sym (length-replicate (length xs - n) 0))
      (λ i h. get_or-drop n xs i 0 ∙ z (n + i) (omega (arith, length-drop n xs)) (omega arith)
      ∙ sym (get_or-replicate (length xs - n) i 0 0 (omega (arith, length-drop n xs))))

  pub zeros_at : (n i : ℕ) → n ≤ i → i < length xs → ZerosFrom xs n → get_or xs i 0 ≡ 0
  zeros_at n i l h z =
      let e : i ≡ n + (i - n) = omega arith in
      ap (λ (k : ℕ). get_or xs k 0) e
      ∙ sym (get_or-drop n xs (i - n) 0)
      ∙ ap (λ (t : List ℕ). get_or t (i - n) 0) z
      ∙ get_or-replicate (length xs - n) (i - n) 0 0 (omega arith)

  pub cleared_none : xs ≡ cleared_from xs (length xs)
  cleared_none = sym (ap (λ (t : List ℕ). take (length xs) xs ++ t) none_left ∙ append-nil (take (length xs) xs) ∙ take-length xs)

  pub cleared_more : (i : ℕ) → i < length xs → set (cleared_from xs (suc i)) i 0 ≡ cleared_from xs i
  cleared_more i h =
      let z : List ℕ = replicate (length xs - suc i) 0 in
      ap (λ (t : List ℕ). set (t ++ z) i 0) (take-suc xs i 0 h)
      ∙ ap (λ (t : List ℕ). set t i 0) (append_assoc (take i xs) (get_or xs i 0 ∷ []) z)
      ∙ set_at (take i xs) (get_or xs i 0) z 0 i (length-take-le i xs (omega arith))
      ∙ ap (λ (t : List ℕ). take i xs ++ t) (sym (one_more i h))
