-- Another path, or another face and path, put into a code by masks: the fields beside it stay as they were.
use Rattle.std.proofs.Common.{◌≡◌, ℕ, zero, suc, ◌+◌, ◌*◌, ◌/◌, ◌%◌, ◌^◌, ◌<◌, sym, refl, ap, ◌∙◌, ap₂, mod-lt, pow-suc, zero-add, arith, lit<, pow_pos}
use lib.Bits.{bit_and, bit_or, bit_xor, and_block, and_mask, or_block, or_zero_r, or_shifted, or_shifted_r, xor_block, xor_zero_r, xor_lt}
use lib.Pow.{split}
use Rattle.codes.specs.Codes.{solid, face, path, depth, joined}

-- what is flipped twice is as it was

bit_back : (r s : ℕ) → r < 2 → s < 2 → bit_xor r (bit_xor r s) ≡ s
bit_back zero s h k = refl
bit_back (suc zero) zero h k = refl
bit_back (suc zero) (suc zero) h k = refl
bit_back (suc zero) (suc (suc s)) h k = absurd (omega arith)
bit_back (suc (suc r)) s h k = absurd (omega arith)

pub xor_back : (n p q : ℕ) → p < 2 ^ n → q < 2 ^ n → bit_xor p (bit_xor p q) ≡ q
xor_back zero p q h k =
    let e : p ≡ 0 = omega arith in
    rw e
xor_back (suc n) p q h k =
    let b : 2 ^ suc n ≡ 2 ^ n * 2 = pow-suc 2 n in
    let ep : p ≡ p / 2 * 2 ^ 1 + p % 2 = omega arith in
    let eq : q ≡ q / 2 * 2 ^ 1 + q % 2 = omega arith in
    let once : bit_xor p q ≡ bit_xor (p / 2) (q / 2) * 2 ^ 1 + bit_xor (p % 2) (q % 2) = ap₂ bit_xor ep eq ∙ xor_block 1 (p / 2) (q / 2) (p % 2) (q % 2) (omega arith) (omega arith) in
    ap₂ bit_xor ep once
    ∙ xor_block 1 (p / 2) (bit_xor (p / 2) (q / 2)) (p % 2) (bit_xor (p % 2) (q % 2)) (omega arith) (xor_lt 1 (p % 2) (q % 2) (omega arith) (omega arith))
    ∙ ap₂ (λ (a c : ℕ). a * 2 ^ 1 + c) (xor_back n (p / 2) (q / 2) (omega arith) (omega arith)) (bit_back (p % 2) (q % 2) (omega arith) (omega arith))
    ∙ sym eq

module _ (x : ℕ) where
  -- another path, by what differs between the two
  pub put_path : (old new : ℕ) → old ≡ path x * 2 ^ 12 → new < 2 ^ 64 → new % 2 ^ 12 ≡ 0 →
      bit_xor x (bit_xor old new / 2 ^ 7) ≡ joined (solid x) (face x) (new / 2 ^ 12) (depth x)
  put_path old new e h t =
      let p : ℕ = path x in
      let q : ℕ = new / 2 ^ 12 in
      let z : ℕ = bit_xor p q in
      let eo : old ≡ p * 2 ^ 12 + 0 = omega arith in
      let en : new ≡ q * 2 ^ 12 + 0 = omega arith in
      let d : bit_xor old new ≡ z * 2 ^ 12 + 0 = ap₂ bit_xor eo en ∙ xor_block 12 p q 0 0 (lit< tt) (lit< tt) in
      let s : bit_xor old new / 2 ^ 7 ≡ z * 2 ^ 5 + 0 = ap (λ (m : ℕ). m / 2 ^ 7) d ∙ omega arith in
      let ex : x ≡ (x / 2 ^ 57 * 2 ^ 52 + p) * 2 ^ 5 + x % 2 ^ 5 = omega arith in
      let ez : z ≡ 0 * 2 ^ 52 + z = omega arith in
      let lz : z < 2 ^ 52 = xor_lt 52 p q (omega arith) (omega arith) in
      let b : bit_xor (x / 2 ^ 57 * 2 ^ 52 + p) z ≡ x / 2 ^ 57 * 2 ^ 52 + q =
      ap (bit_xor (x / 2 ^ 57 * 2 ^ 52 + p)) ez ∙ xor_block 52 (x / 2 ^ 57) 0 p z (omega arith) lz
      ∙ ap₂ (λ (a c : ℕ). a * 2 ^ 52 + c) (xor_zero_r (x / 2 ^ 57)) (xor_back 52 p q (omega arith) (omega arith)) in
      ap₂ bit_xor ex s ∙ xor_block 5 (x / 2 ^ 57 * 2 ^ 52 + p) z (x % 2 ^ 5) 0 (mod-lt x (pow_pos 5)) (lit< tt)
      ∙ ap₂ (λ (a c : ℕ). a * 2 ^ 5 + c) b (xor_zero_r (x % 2 ^ 5)) ∙ omega arith

  kept : x < 2 ^ 64 → bit_and x 0xc000_0000_0000_001f ≡ (x / 2 ^ 62 * 32) * 2 ^ 57 + x % 2 ^ 5
  kept h =
      ap (λ (n : ℕ). bit_and n 0xc000_0000_0000_001f) (sym (split x 62)) ∙ and_block 62 (x / 2 ^ 62) 3 (x % 2 ^ 62) 31 (mod-lt x (pow_pos 62)) (lit< tt)
      ∙ ap₂ (λ (a b : ℕ). a * 2 ^ 62 + b) (and_mask (x / 2 ^ 62) 2) (and_mask (x % 2 ^ 62) 5)
      ∙ omega arith

  -- another face and another path beside the solid and the depth
  pub put_face : (f w : ℕ) → x < 2 ^ 64 → f < 32 → w < 2 ^ 64 → w % 2 ^ 12 ≡ 0 →
      bit_or (bit_or (bit_and x 0xc000_0000_0000_001f) ((f * 2 ^ 57) % 2 ^ 64)) (w / 2 ^ 7) ≡ joined (solid x) f (w / 2 ^ 12) (depth x)
  put_face f w hx h hw t =
      let g : ℕ = x / 2 ^ 62 * 32 + f in
      let e : (f * 2 ^ 57) % 2 ^ 64 ≡ f * 2 ^ 57 + 0 = omega arith in
      let u : bit_or (bit_and x 0xc000_0000_0000_001f) ((f * 2 ^ 57) % 2 ^ 64) ≡ g * 2 ^ 57 + x % 2 ^ 5 =
      ap₂ bit_or (kept hx) e ∙ or_block 57 (x / 2 ^ 62 * 32) f (x % 2 ^ 5) 0 (omega arith) (omega arith)
      ∙ ap₂ (λ (m n : ℕ). m * 2 ^ 57 + n) (or_shifted (x / 2 ^ 62) 5 f h) (or_zero_r (x % 2 ^ 5)) in
      let q : w / 2 ^ 7 ≡ w / 2 ^ 12 * 2 ^ 5 = omega arith in
      ap₂ bit_or u (sym (zero-add (w / 2 ^ 7)))
      ∙ or_block 57 g 0 (x % 2 ^ 5) (w / 2 ^ 7) (omega arith) (omega arith)
      ∙ ap₂ (λ (a b : ℕ). a * 2 ^ 57 + b) (or_zero_r g) (ap (bit_or (x % 2 ^ 5)) q ∙ or_shifted_r (w / 2 ^ 12) 5 (x % 2 ^ 5) (mod-lt x (pow_pos 5)))
      ∙ omega arith
