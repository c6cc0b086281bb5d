-- The faces of a set, one after another: counted, and written into slots.
use mathlib.Core.Bool.{Bool, true, false, cond}
use mathlib.Core.List.{List, [], ◌∷◌, ◌++◌, append_assoc, append-nil}
use mathlib.Core.Path.{◌≡◌, refl, sym, ◌∙◌, ap}
use Prim.Native.Nat.{ℕ, zero, suc, ◌+◌, ◌-◌, ◌*◌, ◌/◌, ◌%◌, ◌^◌, ◌<◌, ◌≤◌}
use native.Mathlib.Nat.{mod-lt}
use native.Mathlib.Numerals.{add-one}
use native.Mathlib.Omega.{arith}
use lib.Dec.{eqb}
use Rattle.std.proofs.Common.{filter}
use Rattle.std.specs.List.{range_with_len}
use lib.ListN.{length, take, set, replicate, length-append, length-set}
use lib.Seq.{length-take-le, take-suc-set}
use borrow.Author.Tests.{eq-eqb, ne_eqb, eqb-true, eqb-false}
use Rattle.solids.specs.Solids.{solid_of, faces}
use Rattle.refusals.specs.Answers.{Tells}
use Rattle.codes.specs.Codes.{joined}
use Rattle.codes.specs.Places.{code_at, base}
use Rattle.soundness.specs.Leaves.{pad}
use Rattle.soundness.specs.Changes.{faces_from, fresh_leaves}
use Rattle.slots.specs.Slots.{cleared_from}

abbrev face_code : ℕ → ℕ → ℕ
face_code S f = code_at (base S + f * 2 ^ 52) 0

-- whether the set has the face
abbrev bit : ℕ → ℕ → ℕ
bit Q f = Q / 2 ^ f % 2

-- the list of one face or none has as many as its bit says
length-face : (b x : ℕ) (R : List ℕ) → b < 2 → length (cond (eqb b 1) (x ∷ []) [] ++ R) ≡ b + length R
length-face b x R l = go (eqb b 1) refl
  where
    go : (t : Bool) → eqb b 1 ≡ t → length (cond t (x ∷ []) [] ++ R) ≡ b + length R
    go true e = omega (arith, eqb-true b 1 e)
    go false e = let ne : b ≡ 1 → ⊥ = eqb-false b 1 e in omega arith

-- whether the set has the face, as a test
abbrev pub has : ℕ → ℕ → Bool
has Q f = eqb (bit Q f) 1

-- of the k faces from f on there are as many as pass the test
pub counted : (S Q f k : ℕ) → length (filter (has Q) (range_with_len f k)) ≡ length (faces_from S Q f k)
counted S Q f zero = refl
counted S Q f (suc k) = go (has Q f) (counted S Q (f + 1) k)
  where
    go : (t : Bool) → length (filter (has Q) (range_with_len (f + 1) k)) ≡ length (faces_from S Q (f + 1) k) →
        length (cond t (f ∷ filter (has Q) (range_with_len (f + 1) k)) (filter (has Q) (range_with_len (f + 1) k))) ≡
        length (cond t (face_code S f ∷ []) [] ++ faces_from S Q (f + 1) k)
    go true e = omega arith
    go false e = e

pub told : (b : Bool) (n : ℕ) → Tells b (n ≡ 1) → b ≡ eqb n 1
told true n t = sym (eq-eqb n 1 (t.yes refl))
told false n t = sym (ne_eqb n 1 (t.no refl))

module _ (S Q last : ℕ) where
  -- those from f on, below last
  abbrev pub left : ℕ → List ℕ
  left f = faces_from S Q f (last - f)

  left_more : (f : ℕ) → f < last → left f ≡ cond (eqb (bit Q f) 1) (face_code S f ∷ []) [] ++ left (f + 1)
  left_more f h = let e : last - f ≡ suc (last - (f + 1)) = omega arith in ap (faces_from S Q f) e

  left_none : (f : ℕ) → last ≤ f → left f ≡ []
  left_none f h = let e : last - f ≡ 0 = omega arith in ap (faces_from S Q f) e

  pub left_all : last ≡ faces (solid_of S) → left 0 ≡ fresh_leaves S Q
  left_all h = let e : last - 0 ≡ faces (solid_of S) = omega arith in ap (faces_from S Q 0) e

  -- counted one by one

  pub count_more : (n f N : ℕ) → f < last → n + length (left f) ≡ N → n + bit Q f + length (left (f + 1)) ≡ N
  count_more n f N h e =
      omega (arith, ap length (left_more f h), length-face (bit Q f) (face_code S f) (left (f + 1)) (mod-lt (Q / 2 ^ f) (omega arith)))

  pub count_done : (n f N : ℕ) → last ≤ f → n + length (left f) ≡ N → n ≡ N
  count_done n f N h e = omega (arith, ap length (left_none f h))

  -- written

  module _ (xs F : List ℕ) (n f : ℕ) (low : n ≤ length xs) (e : take n xs ++ left f ≡ F) where
    pub room : f < last → bit Q f ≡ 1 → length F ≤ length xs → n < length xs
    room h b r =
        omega (
          arith,
          ap length e,
          length-append (take n xs) (left f),
          length-take-le n xs low,
          ap length (left_more f h),
          length-face (bit Q f) (face_code S f) (left (f + 1)) (omega arith),
        )

    -- what one turn leaves: the face is written, or nothing is
    pub write_more : f < last → bit Q f ≡ 1 → n < length xs → (ys : List ℕ) (k v : ℕ) → ys ≡ set xs n v → k ≡ n + 1 → v ≡ joined S f 0 0 →
        (length ys ≡ length xs) × (k ≤ length ys) × (take k ys ++ left (f + 1) ≡ F)
    write_more h b r ys k v ey ek ev =
        let x = face_code S f in
        let same : ys ≡ set xs n x = ey ∙ ap (set xs n) (ev ∙ omega arith) in
        let len : length ys ≡ length xs = ap length same ∙ length-set xs n x in (
          len,
          omega arith,
          ap (λ (i : ℕ). take i ys ++ left (f + 1)) (ek ∙ add-one n)
              ∙ ap (λ (t : List ℕ). take (suc n) t ++ left (f + 1)) same
              ∙ ap (λ (t : List ℕ). t ++ left (f + 1)) (take-suc-set xs n x r)
              ∙ append_assoc (take n xs) (x ∷ []) (left (f + 1))
              ∙ ap (λ (t : Bool). take n xs ++ (cond t (x ∷ []) [] ++ left (f + 1))) (sym (eq-eqb (bit Q f) 1 b))
              ∙ ap (λ (t : List ℕ). take n xs ++ t) (sym (left_more f h))
              ∙ e,
        )

    pub write_none : f < last → (bit Q f ≡ 1 → ⊥) → (ys : List ℕ) (k : ℕ) → ys ≡ xs → k ≡ n →
        (length ys ≡ length xs) × (k ≤ length ys) × (take k ys ++ left (f + 1) ≡ F)
    write_none h b ys k ey ek =
        let len : length ys ≡ length xs = ap length ey in (
          len,
          omega arith,
          ap (λ (i : ℕ). take i ys ++ left (f + 1)) ek
              ∙ ap (λ (t : List ℕ). take n t ++ left (f + 1)) ey
              ∙ ap (λ (t : Bool). take n xs ++ (cond t (face_code S f ∷ []) [] ++ left (f + 1))) (sym (ne_eqb (bit Q f) 1 b))
              ∙ ap (λ (t : List ℕ). take n xs ++ t) (sym (left_more f h))
              ∙ e,
        )

    pub write_done : last ≤ f → cleared_from xs n ≡ pad (length xs) F
    write_done h =
        let g : take n xs ≡ F = sym (append-nil (take n xs)) ∙ ap (λ (t : List ℕ). take n xs ++ t) (sym (left_none f h)) ∙ e in
        let m : n ≡ length F = sym (length-take-le n xs low) ∙ ap length g in
        ap (λ (t : List ℕ). t ++ replicate (length xs - n) 0) g ∙ ap (λ (k : ℕ). F ++ replicate (length xs - k) 0) m
