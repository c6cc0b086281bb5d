-- The word of a path of d digits: what it shows at its places, and the masks beside it.
--
--   slots_of s d w == the 32 places of the word w of a path of d digits, for a walk in direction s
use Rattle.std.proofs.Common.{◌≡◌, ℕ, ◌+◌, ◌-◌, ◌*◌, ◌/◌, ◌%◌, ◌^◌, ◌<◌, ◌≤◌, true, T, ltb, List, length, sym, refl, ap, ◌∙◌, div-lt_iff_lt-mul, div-add-mod', arith, pow-add}
use native.Mathlib.Nat.{one-le-pow}
use Rattle.solids.specs.Triangles.{Side}
use Rattle.geometry.specs.Corners.{Digit}
use Rattle.geometry.specs.Paths.{digit_no, number}
use Rattle.geometry.proofs.Paths.{length-digits, number-digits}
use Rattle.carry.specs.Carries.{digits_of}
use Rattle.carry.proofs.Words.{word, rep}
use Rattle.carry.proofs.Slots.{Slot, side_at, slots, slots_length, mask_word}
use Rattle.carry.proofs.Digits.{tail_at, tail_word, path_word, digit_at, digits_at}
use Rattle.carry.proofs.Tests.{every}
use Rattle.carry.proofs.Shows.{Shows, shown}

abbrev pub slots_of : Side → ℕ → ℕ → List Slot
slots_of s d w = slots s (32 - d) (digits_of d w)

module _ (s : Side) (d w : ℕ) (h : d ≤ 26) where
  wide : length (slots_of s d w) ≡ 32
  wide = slots_length s (32 - d) (digits_of d w) ∙ omega (arith, length-digits d (w / 4 ^ (32 - d)))

  pub mask : (f : Side → ℕ) → T (every (λ k. ltb (f (side_at k)) 4)) → Shows (slots_of s d w) (λ k. f (side_at k)) (rep (f s) 32)
  mask f t =
      let n : (32 - d) + length (digits_of d w) ≡ 32 = sym (slots_length s (32 - d) (digits_of d w)) ∙ wide in
      shown wide (λ k. f (side_at k)) t (sym (mask_word f s (32 - d) (digits_of d w) ∙ ap (rep (f s)) n))

  pub tail_shown : (t : ℕ) → t ≡ 4 ^ (32 - d) - 1 → Shows (slots_of s d w) tail_at t
  tail_shown t e =
      let i : t ≡ word tail_at (slots_of s d w) = omega (arith, tail_word s (32 - d) (digits_of d w)) in
      shown wide tail_at tt i

  -- all digits of the word are those of the path, and zeros after them
  pub path_shown : w < 2 ^ 64 → w % 4 ^ (32 - d) ≡ 0 → Shows (slots_of s d w) (λ k. digit_no (digit_at k)) w
  path_shown l e =
      let z : ℕ = 32 - d in
      let ds : List Digit = digits_of d w in
      let n : d + z ≡ 32 = omega arith in
      let full : 4 ^ d * 4 ^ z ≡ 2 ^ 64 = sym (pow-add 4 d z) ∙ ap (λ (m : ℕ). 4 ^ m) n in
      let few : w / 4 ^ z < 4 ^ d = (div-lt_iff_lt-mul (one-le-pow z 4 (omega arith))).1 (rw full l) in
      let i : number ds * 4 ^ z ≡ w = rw (number-digits d (w / 4 ^ z)) (omega (arith, div-add-mod' w (4 ^ z))) in
      shown wide (λ k. digit_no (digit_at k)) tt (sym (path_word digit_at s refl z ds ∙ rw (digits_at s true ds) i))
