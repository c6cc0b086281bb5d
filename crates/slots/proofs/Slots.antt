-- Slots that hold leaves and then zeros hold the new leaves and then zeros after one has become four, or four have become one.
-- Assumes nothing.
use Rattle.std.proofs.Common.{◌≡◌, ℕ, zero, suc, ◌+◌, ◌-◌, ◌≤◌, List, [], ◌∷◌, ◌++◌, length, take, drop, replicate, sym, ap, ◌∙◌, ap₂, append_assoc, arith, length-append, take_at}
use lib.Seq.{take-append_seam, drop-append_seam, drop-append-add}
use Rattle.soundness.specs.Leaves.{pad}
use Rattle.slots.specs.Slots.{split_slot, join_at}

pub take-pad : (m : ℕ) (L : List ℕ) → take (length L) (pad m L) ≡ L
take-pad m L = take-append_seam L (replicate (m - length L) 0)

zeros_less : (k m : ℕ) → drop k (replicate {A = ℕ} m 0) ≡ replicate (m - k) 0
zeros_less zero m =
    let e : m ≡ m - 0 = omega arith in
    ap (λ (i : ℕ). replicate {A = ℕ} i 0) e
zeros_less (suc k) zero =
    let e : 0 ≡ 0 - suc k = omega arith in
    ap (λ (i : ℕ). replicate {A = ℕ} i 0) e
zeros_less (suc k) (suc m) =
    let e : m - k ≡ suc m - suc k = omega arith in
    zeros_less k m ∙ ap (λ (i : ℕ). replicate {A = ℕ} i 0) e

-- the leaves before `mid` and after it, out of slots that end in others
module _ (pre mid post : List ℕ) where
  abbrev whole : List ℕ
  whole = pre ++ (mid ++ post)

  abbrev seam : ℕ
  seam = length pre + length mid

  whole_length : length whole ≡ seam + length post
  whole_length = omega (arith, length-append pre (mid ++ post), length-append mid post)

  before_is : (Z : List ℕ) → take (length pre) (whole ++ Z) ≡ pre
  before_is Z = ap (take (length pre)) (append_assoc pre (mid ++ post) Z) ∙ take-append_seam pre ((mid ++ post) ++ Z)

  after_is : (Z : List ℕ) → take (length whole - seam) (drop seam (whole ++ Z)) ≡ post
  after_is Z =
      let e : length post ≡ length whole - seam = omega (arith, whole_length) in
      ap (λ (t : List ℕ). take (length whole - seam) (drop seam t)) (append_assoc pre (mid ++ post) Z)
      ∙ ap (take (length whole - seam))
      (drop-append-add pre ((mid ++ post) ++ Z) (length mid) ∙ ap (drop (length mid)) (append_assoc mid post Z) ∙ drop-append_seam mid (post ++ Z))
      ∙ take_at post Z (length whole - seam) e

module _ (m : ℕ) (pre post : List ℕ) where
  pub split_pad : (x a b c d : ℕ) → length (pre ++ (x ∷ post)) + 3 ≤ m →
      split_slot (pad m (pre ++ (x ∷ post))) (length pre) (length (pre ++ (x ∷ post))) a b c d ≡ pad m (pre ++ (a ∷ b ∷ c ∷ d ∷ post))
  split_pad x a b c d h =
      let L : List ℕ = pre ++ (x ∷ post) in
      let M : List ℕ = pre ++ (a ∷ b ∷ c ∷ d ∷ post) in
      let Z : List ℕ = replicate (m - length L) 0 in
      let e : m - length L - 3 ≡ m - length M = omega (arith, whole_length pre (x ∷ []) post, whole_length pre (a ∷ b ∷ c ∷ d ∷ []) post) in
      let free : drop (length L + 3) (L ++ Z) ≡ replicate (m - length M) 0 =
      drop-append-add L Z 3 ∙ zeros_less 3 (m - length L) ∙ ap (λ (i : ℕ). replicate {A = ℕ} i 0) e in
      ap₂ (λ (s t : List ℕ). s ++ (a ∷ b ∷ c ∷ d ∷ (t ++ drop (length L + 3) (L ++ Z)))) (before_is pre (x ∷ []) post Z) (after_is pre (x ∷ []) post Z)
      ∙ ap (λ (t : List ℕ). pre ++ (a ∷ b ∷ c ∷ d ∷ (post ++ t))) free
      ∙ sym (append_assoc pre (a ∷ b ∷ c ∷ d ∷ post) (replicate (m - length M) 0))

  pub join_pad : (w x y z code : ℕ) → length (pre ++ (w ∷ x ∷ y ∷ z ∷ post)) ≤ m →
      join_at (pad m (pre ++ (w ∷ x ∷ y ∷ z ∷ post))) (length pre) (length (pre ++ (w ∷ x ∷ y ∷ z ∷ post))) code ≡ pad m (pre ++ (code ∷ post))
  join_pad w x y z code h =
      let four : List ℕ = w ∷ x ∷ y ∷ z ∷ [] in
      let L : List ℕ = pre ++ (w ∷ x ∷ y ∷ z ∷ post) in
      let M : List ℕ = pre ++ (code ∷ post) in
      let Z : List ℕ = replicate (m - length L) 0 in
      let e : suc (suc (suc (m - length L))) ≡ m - length M = omega (arith, whole_length pre four post, whole_length pre (code ∷ []) post) in
      ap₂ (λ (s t : List ℕ). s ++ (code ∷ (t ++ (0 ∷ 0 ∷ 0 ∷ drop (length L) (L ++ Z))))) (before_is pre four post Z) (after_is pre four post Z)
      ∙ ap (λ (t : List ℕ). pre ++ (code ∷ (post ++ (0 ∷ 0 ∷ 0 ∷ t)))) (drop-append_seam L Z)
      ∙ ap (λ (i : ℕ). pre ++ (code ∷ (post ++ replicate i 0))) e
      ∙ sym (append_assoc pre (code ∷ post) (replicate (m - length M) 0))
