-- Laws about digits that are put in and digits that are read.
--
--   put_last, room_for_last, digits_put == digits that are put in, the last after those before it
--   digits_led                         == before the last 64 digits there are zeros
--   shown_range, no_digit, is_low, is_high == which bytes show a digit
--   read_more, read_other == digits that are read from the first
--   digits_one            == the digits tell the number
use mathlib.Core.List.{List, [], ◌∷◌, ◌++◌, append_assoc, append-nil}
use mathlib.Core.Logic.{◌⊎◌, inl, inr, ⊎_elim}
use mathlib.Core.Path.{◌≡◌, refl, ap, ap₂, sym, ◌∙◌, subst}
use Prim.Native.Nat.{ℕ, zero, suc, ◌+◌, ◌*◌, ◌-◌, ◌/◌, ◌%◌, ◌^◌, ◌<◌, ◌≤◌}
use native.Mathlib.Nat.{pow-suc, pow-le-pow_right, zero-div, zero-mod, div-mul-le_self, mul-le-mul_left}
use native.Mathlib.Decide.{dec_le}
use native.Mathlib.Omega.{arith}
use borrow.Author.Tests.{lt-ltb, le-ltb}
use lib.Dec.{lit<}
use lib.ListN.{length, take, get_or, length-append, get_or-append}
use lib.Seq.{take-suc, get_or_at, take_at}
use Rattle.std.proofs.Common.{encode_utf8, replicate, min}
use Rattle.std.proofs.lemmas.List.{replicate_more, replicate-append-replicate}
use Rattle.std.proofs.lemmas.Str.{encode_ascii}
use Rattle.text.specs.Text.{glyph, digits, Shows}

pub length_digits : (b k n : ℕ) → length (digits b k n) ≡ k
unfolding digits
length_digits b zero n = refl
length_digits b (suc k) n = omega (arith, length-append (digits b k (n / b)) (glyph (n % b) ∷ []), length_digits b k (n / b))

-- the digits that are put in: all but the last, and then the last
pub digits_next : (b k n : ℕ) → 0 < k → digits b k n ≡ digits b (k - 1) (n / b) ++ (glyph (n % b) ∷ [])
unfolding digits
digits_next b zero n h = absurd (omega arith)
digits_next b (suc k) n h =
    let e : k ≡ suc k - 1 = omega arith in
    ap (λ (i : ℕ). digits b i (n / b) ++ (glyph (n % b) ∷ [])) e

pub digits_none : (b k n : ℕ) → k ≤ 0 → digits b k n ≡ []
unfolding digits
digits_none b zero n h = refl
digits_none b (suc k) n h = absurd (omega arith)

-- how long a page is when digits were put in
pub digits_put : (before after : List ℕ) (b k n : ℕ) → after ≡ before ++ digits b k n → length after ≡ length before + k
digits_put before after b k n e = omega (arith, ap length e, length-append before (digits b k n), length_digits b k n)

-- the last digit is put in after those before it
module _ (before mid : List ℕ) (b k n : ℕ) (some : 0 < k) (put : mid ≡ before ++ digits b (k - 1) (n / b)) where
  pub put_last : {after : List ℕ} {x : ℕ} → x ≡ glyph (n % b) → after ≡ mid ++ (x ∷ []) → after ≡ before ++ digits b k n
  put_last e p =
      p
      ∙ ap₂ (λ (s : List ℕ) (y : ℕ). s ++ (y ∷ [])) put e
      ∙ append_assoc before (digits b (k - 1) (n / b)) (glyph (n % b) ∷ [])
      ∙ ap (λ (s : List ℕ). before ++ s) (sym (digits_next b k n some))

  pub room_for_last : {x room : ℕ} → x < 128 → length before + k ≤ room → length mid + length (encode_utf8 x) ≤ room
  room_for_last {x} h r =
      omega (arith, r, digits_put before mid b (k - 1) (n / b) put, ap length (encode_ascii x h))

-- so many digits 0
abbrev pub zeros : ℕ → List ℕ
zeros k = replicate k 48

zeros_next : (k : ℕ) → zeros k ++ (48 ∷ []) ≡ zeros (suc k)
zeros_next k =
    let e : k + 1 ≡ suc k = omega arith in
    replicate_more k 48 ∙ ap zeros e

zeros_of_0 : (b k : ℕ) → digits b k 0 ≡ zeros k
unfolding digits
zeros_of_0 b zero = refl
zeros_of_0 b (suc k) =
    ap₂ (λ (m d : ℕ). digits b k m ++ (glyph d ∷ [])) (zero-div b) (zero-mod b)
    ∙ ap (λ (s : List ℕ). s ++ (48 ∷ [])) (zeros_of_0 b k)
    ∙ zeros_next k

zeros_in_base_1 : (k n : ℕ) → digits 1 k n ≡ zeros k
unfolding digits
zeros_in_base_1 zero n = refl
zeros_in_base_1 (suc k) n =
    let e : n % 1 ≡ 0 = omega arith in
    ap₂ (λ (s : List ℕ) (d : ℕ). s ++ (glyph d ∷ [])) (zeros_in_base_1 k (n / 1)) e ∙ zeros_next k

-- before the digits of a number below 2 ^ k there are zeros
leading : (b z k n : ℕ) → 2 ≤ b → n < 2 ^ k → digits b (z + k) n ≡ zeros z ++ digits b k n
unfolding digits
leading b z zero n two h =
    let i : z + zero ≡ z = omega arith in
    let m : n ≡ 0 = omega (arith, h) in
    ap₂ (λ (i m : ℕ). digits b i m) i m ∙ zeros_of_0 b z ∙ sym (append-nil (zeros z))
leading b z (suc k) n two h =
    let i : z + suc k ≡ suc (z + k) = omega arith in
    let most : n / b * 2 ≤ n / b * b = mul-le-mul_left (n / b) two in
    let half : n / b < 2 ^ k = omega (arith, h, pow-suc 2 k, most, div-mul-le_self n b) in
    ap (λ (i : ℕ). digits b i n) i
    ∙ ap (λ (s : List ℕ). s ++ (glyph (n % b) ∷ [])) (leading b z k (n / b) two half)
    ∙ append_assoc (zeros z) (digits b k (n / b)) (glyph (n % b) ∷ [])

led : (b z n : ℕ) → 0 < b → n < 2 ^ 64 → digits b (z + 64) n ≡ zeros z ++ digits b 64 n
led b z n some h = go (dec_le 2 b)
  where
    go : Dec (2 ≤ b) → digits b (z + 64) n ≡ zeros z ++ digits b 64 n
    go (yes two) = leading b z 64 n two h
    go (no l) =
        let one : b ≡ 1 = omega (arith, some, l) in
        subst (λ (c : ℕ). digits c (z + 64) n ≡ zeros z ++ digits c 64 n) (sym one)
        (zeros_in_base_1 (z + 64) n ∙ sym (replicate-append-replicate z 64 48) ∙ ap (λ (s : List ℕ). zeros z ++ s) (sym (zeros_in_base_1 64 n)))

pub digits_led : (b k last n : ℕ) → 0 < b → n < 2 ^ 64 → last ≡ min k 64 → digits b k n ≡ zeros (k - last) ++ digits b last n
digits_led b k last n some h e = go (dec_le k 64)
  where
    go : Dec (k ≤ 64) → digits b k n ≡ zeros (k - last) ++ digits b last n
    go (yes l) =
        let a : k ≡ last = omega (arith, e, l) in
        let z : k - last ≡ 0 = omega (arith, a) in
        ap (λ (i : ℕ). digits b i n) a ∙ ap (λ (i : ℕ). zeros i ++ digits b last n) (sym z)
    go (no l) =
        let a : last ≡ 64 = omega (arith, e, l) in
        let i : k ≡ k - last + 64 = omega (arith, a, l) in
        ap (λ (i : ℕ). digits b i n) i ∙ led b (k - last) n some h ∙ ap (λ (i : ℕ). zeros (k - last) ++ digits b i n) (sym a)

bound : (n i : ℕ) → n < 16 ^ i → i < 16 → n * 16 + 15 < 16 ^ (i + 1)
bound n i h l =
    let e : i + 1 ≡ suc i = omega arith in
    subst (λ (k : ℕ). n * 16 + 15 < 16 ^ k) (sym e) (omega (arith, h, pow-suc 16 i))

pub read_fits : (n i : ℕ) → n < 16 ^ i → i < 16 → n * 16 + 15 < 2 ^ 64
read_fits n i h l =
    let p : 16 ^ (i + 1) ≤ 16 ^ 16 = pow-le-pow_right {n = 16} (lit< tt) {i = i + 1} {j = 16} (omega arith) in
    omega (arith, bound n i h l, p)

pub read_bound : (n i d : ℕ) → n < 16 ^ i → i < 16 → d < 16 → n * 16 + d < 16 ^ (i + 1)
read_bound n i d h l k = omega (arith, bound n i h l, k)

pub read_more : (bytes : List ℕ) (i n d : ℕ) → i < length bytes → take i bytes ≡ digits 16 i n → Shows (get_or bytes i 0) d →
    take (i + 1) bytes ≡ digits 16 (i + 1) (n * 16 + d)
unfolding digits
read_more bytes i n d h e s =
    let a : i + 1 ≡ suc i = omega arith in
    let q : n ≡ (n * 16 + d) / 16 = omega (arith, s.0) in
    let r : d ≡ (n * 16 + d) % 16 = omega (arith, s.0) in
    ap (λ (k : ℕ). take k bytes) a
    ∙ take-suc bytes i 0 h
    ∙ ap₂ (λ (t : List ℕ) (x : ℕ). t ++ (x ∷ [])) e s.1
    ∙ ap₂ (λ (x y : ℕ). digits 16 i x ++ (glyph y ∷ [])) q r
    ∙ ap (λ (k : ℕ). digits 16 k (n * 16 + d)) (sym a)

glyph_low : (d : ℕ) → d < 10 → glyph d ≡ 48 + d
glyph_low d h = simp (lt-ltb d 10 h)

glyph_high : (d : ℕ) → 10 ≤ d → glyph d ≡ 87 + d
glyph_high d h = simp (le-ltb d 10 h)

-- `0` to `9`, `a` to `f`
pub shown_range : (x d : ℕ) → Shows x d → ((48 ≤ x) × (x ≤ 57)) ⊎ ((97 ≤ x) × (x ≤ 102))
shown_range x d s = go (dec_le 10 d)
  where
    go : Dec (10 ≤ d) → ((48 ≤ x) × (x ≤ 57)) ⊎ ((97 ≤ x) × (x ≤ 102))
    go (yes h) = inr (omega (arith, s.0, s.1, glyph_high d h), omega (arith, s.0, s.1, glyph_high d h))
    go (no h) = inl (omega (arith, s.1, glyph_low d (omega arith)), omega (arith, h, s.1, glyph_low d (omega arith)))

pub no_digit : (x : ℕ) → ((48 ≤ x) × (x ≤ 57) → ⊥) → ((97 ≤ x) × (x ≤ 102) → ⊥) → (d : ℕ) → Shows x d → ⊥
no_digit x f g d s = ⊎_elim f g (shown_range x d s)

pub is_low : (x : ℕ) → 48 ≤ x → x ≤ 57 → Shows x (x - 48)
is_low x h k =
    let l : x - 48 < 10 = omega arith in
    (omega arith, omega (arith, h, glyph_low (x - 48) l))

pub is_high : (x : ℕ) → 97 ≤ x → x ≤ 102 → Shows x (x - 87)
is_high x h k =
    let l : 10 ≤ x - 87 = omega arith in
    (omega arith, omega (arith, h, glyph_high (x - 87) l))

-- every one of the digits shows a digit
pub record Shown (x : ℕ) : Type 0 where
  pub digit : ℕ
  pub shows : Shows x digit

digit_shows : (k n i : ℕ) → i < k → Shown (get_or (digits 16 k n) i 0)
unfolding digits
digit_shows zero n i h = absurd (omega (arith, h))
digit_shows (suc k) n i h = go (dec_le (suc i) k) (λ l. digit_shows k (n / 16) i l)
  where
    front : List ℕ
    front = digits 16 k (n / 16)

    go : Dec (suc i ≤ k) → (i < k → Shown (get_or front i 0)) → Shown (get_or (digits 16 (suc k) n) i 0)
    go (yes l) f = subst Shown (sym (get_or-append front (glyph (n % 16) ∷ []) 0 i (omega (arith, l, length_digits 16 k (n / 16))))) (f l)
    go (no l) f = record {
      digit = n % 16;
      shows = (omega arith, get_or_at front (glyph (n % 16)) [] 0 i (omega (arith, l, h, length_digits 16 k (n / 16))));
    }

pub read_other : (bytes : List ℕ) (k i : ℕ) → i < k → ((d : ℕ) → Shows (get_or bytes i 0) d → ⊥) → (n : ℕ) → bytes ≡ digits 16 k n → ⊥
read_other bytes k i h none n e =
    let s = digit_shows k n i h in
    none s.digit (s.shows.0, ap (λ (t : List ℕ). get_or t i 0) e ∙ s.shows.1)

-- what comes last, and what comes before it
snoc_front : (xs ys : List ℕ) (a b : ℕ) → length xs ≡ length ys → xs ++ (a ∷ []) ≡ ys ++ (b ∷ []) → xs ≡ ys
snoc_front xs ys a b l e =
    sym (take_at xs (a ∷ []) (length ys) l) ∙ ap (take (length ys)) e ∙ take_at ys (b ∷ []) (length ys) refl

snoc_last : (xs ys : List ℕ) (a b : ℕ) → length xs ≡ length ys → xs ++ (a ∷ []) ≡ ys ++ (b ∷ []) → a ≡ b
snoc_last xs ys a b l e =
    sym (get_or_at xs a [] 0 (length ys) l) ∙ ap (λ (t : List ℕ). get_or t (length ys) 0) e ∙ get_or_at ys b [] 0 (length ys) refl

glyph_one : (d e : ℕ) → d < 16 → e < 16 → glyph d ≡ glyph e → d ≡ e
glyph_one d e h k s = go (dec_le 10 d) (dec_le 10 e)
  where
    go : Dec (10 ≤ d) → Dec (10 ≤ e) → d ≡ e
    go (yes p) (yes q) = omega (arith, s, glyph_high d p, glyph_high e q)
    go (yes p) (no q) = omega (arith, s, glyph_high d p, glyph_low e (omega arith))
    go (no p) (yes q) = omega (arith, s, glyph_low d (omega arith), glyph_high e q)
    go (no p) (no q) = omega (arith, s, glyph_low d (omega arith), glyph_low e (omega arith))

pub digits_one : (k m n : ℕ) → m < 16 ^ k → n < 16 ^ k → digits 16 k m ≡ digits 16 k n → m ≡ n
unfolding digits
digits_one zero m n h l e = omega (arith, h, l)
digits_one (suc k) m n h l e =
    let same : length (digits 16 k (m / 16)) ≡ length (digits 16 k (n / 16)) = length_digits 16 k (m / 16) ∙ sym (length_digits 16 k (n / 16)) in
    let front = snoc_front (digits 16 k (m / 16)) (digits 16 k (n / 16)) (glyph (m % 16)) (glyph (n % 16)) same e in
    let last = snoc_last (digits 16 k (m / 16)) (digits 16 k (n / 16)) (glyph (m % 16)) (glyph (n % 16)) same e in
    let q : m / 16 ≡ n / 16 = digits_one k (m / 16) (n / 16) (omega (arith, h, pow-suc 16 k)) (omega (arith, l, pow-suc 16 k)) front in
    let r : m % 16 ≡ n % 16 = glyph_one (m % 16) (n % 16) (omega arith) (omega arith) last in
    omega (arith, q, r)
