-- What the first bytes must be for a solid line or an order line, and that they are enough; a line that is cut off from the bytes; how
-- texts are put one after the other.
--
--   solid_made     == bytes that begin with a digit and a newline begin with a solid line
--   solid-..       == what a solid line begins with
--   order_made     == bytes that begin with a letter, a space, 16 digits and a newline begin with an order line
--   order-..       == what an order line begins with
--   line_begins, line_left == of bytes that are cut after an order line, it is the first line, and the rest is left
--   line_of        == of bytes that begin with an order line, the first 19 are one
--   put_after      == one text put in after another
--   answer_short   == no answer is longer than 11 bytes
--   no_digits      == a line whose number can't be read is none
--   refusal_number == no refusal has the number 0
use mathlib.Core.Bool.{Bool, true, false, cond}
use mathlib.Core.List.{List, [], ◌∷◌, ◌++◌, append_assoc, append-nil}
use mathlib.Core.Logic.{◌⊎◌}
use mathlib.Core.Path.{◌≡◌, ap, ap₂, sym, ◌∙◌}
use Prim.Native.Nat.{ℕ, zero, suc, ◌+◌, ◌^◌, ◌<◌, ◌≤◌, min}
use native.Mathlib.Omega.{arith}
use lib.Dec.{ltb}
use lib.ListN.{length, take, drop, get_or, length-append, length-drop, length-take, take-append-drop, drop_of_length-le}
use lib.Seq.{drop-cons, drop-drop, take_at, drop_at, get_or_at}
use Rattle.refusals.specs.Answers.{number}
use Rattle.refusals.specs.declared.Refusal.{Refusal}
use Rattle.refusals.specs.declared.Refusal.TheVariants.{Solid, Face, Depth, Tail, Direction, Digit, Deep, Root, Point, Buffer, Mesh, NotLeaf, NotFour, Blocked, Room}
use Rattle.text.specs.Text.{digits}
use Rattle.text.proofs.Text.{length_digits}
use Rattle.listing.specs.Listing.{newline, space, R, C, solid_line, order_line, SolidFirst, OrderFirst, refused_word, width, answer}

pub solid_made : (B : List ℕ) (d : ℕ) → 2 ≤ length B → d < 10 → get_or B 0 0 ≡ 48 + d → get_or B 1 0 ≡ newline → SolidFirst B d
solid_made B d long digit first second = record {
  digit = digit;
  is =
      drop-cons B 0 0 (omega arith)
      ∙ ap₂ (λ (x : ℕ) (t : List ℕ). x ∷ t) first
      (drop-cons B 1 0 (omega arith) ∙ ap (λ (x : ℕ). x ∷ drop 2 B) second);
}

module _ (B : List ℕ) (d : ℕ) (s : SolidFirst B d) where
  pub solid_long : 2 ≤ length B
  solid_long = omega (arith, ap length s.is, length-append (solid_line d) (drop 2 B))

  pub solid_digit : get_or B 0 0 ≡ 48 + d
  solid_digit = ap (λ (t : List ℕ). get_or t 0 0) s.is

  pub solid_end : get_or B 1 0 ≡ newline
  solid_end = ap (λ (t : List ℕ). get_or t 1 0) s.is

module _ (B : List ℕ) (l c : ℕ) where
  abbrev ending : List ℕ
  ending = newline ∷ drop 19 B

  -- the line is its letter, a space, its digits and a newline, one after the other
  in_parts : order_line l c ++ drop 19 B ≡ l ∷ space ∷ (digits 16 16 c ++ ending)
  in_parts = ap (λ (t : List ℕ). l ∷ space ∷ t) (append_assoc (digits 16 16 c) (newline ∷ []) (drop 19 B))

  pub order_made : (l ≡ R) ⊎ (l ≡ C) → c < 2 ^ 64 → 19 ≤ length B → get_or B 0 0 ≡ l → get_or B 1 0 ≡ space → take 16 (drop 2 B) ≡ digits 16 16 c → get_or B 18 0 ≡ newline →
      OrderFirst B l c
  order_made kind code long letter gap number last =
      let end : drop 16 (drop 2 B) ≡ ending =
      drop-drop 16 2 B ∙ drop-cons B 18 0 (omega arith) ∙ ap (λ (x : ℕ). x ∷ drop 19 B) last in
      let rest : drop 2 B ≡ digits 16 16 c ++ ending =
      sym (take-append-drop 16 (drop 2 B)) ∙ ap₂ (λ (s t : List ℕ). s ++ t) number end in
      record {
        letter = kind;
        code = code;
        is =
            drop-cons B 0 0 (omega arith)
            ∙ ap₂ (λ (x : ℕ) (t : List ℕ). x ∷ t) letter
            (drop-cons B 1 0 (omega arith) ∙ ap₂ (λ (x : ℕ) (t : List ℕ). x ∷ t) gap rest)
            ∙ sym in_parts;
      }

  module _ (o : OrderFirst B l c) where
    is_parts : B ≡ l ∷ space ∷ (digits 16 16 c ++ ending)
    is_parts = o.is ∙ in_parts

    pub order_long : 19 ≤ length B
    order_long = omega (arith, ap length is_parts, length-append (digits 16 16 c) ending, length_digits 16 16 c)

    pub order_letter : get_or B 0 0 ≡ l
    order_letter = ap (λ (t : List ℕ). get_or t 0 0) is_parts

    pub order_space : get_or B 1 0 ≡ space
    order_space = ap (λ (t : List ℕ). get_or t 1 0) is_parts

    pub order_digits : take 16 (drop 2 B) ≡ digits 16 16 c
    order_digits = ap (λ (t : List ℕ). take 16 (drop 2 t)) is_parts ∙ take_at (digits 16 16 c) ending 16 (length_digits 16 16 c)

    pub order_end : get_or B 18 0 ≡ newline
    order_end = ap (λ (t : List ℕ). get_or t 18 0) is_parts ∙ get_or_at (digits 16 16 c) newline (drop 19 B) 0 16 (length_digits 16 16 c)

pub put_after : (a s t : List ℕ) {b c : List ℕ} → b ≡ a ++ s → c ≡ b ++ t → c ≡ a ++ (s ++ t)
put_after a s t p q = q ∙ ap (λ (x : List ℕ). x ++ t) p ∙ append_assoc a s t

pub width_short : (k : ℕ) → width k ≤ 2
width_short k = go (ltb k 10)
  where
    go : (b : Bool) → cond b 1 2 ≤ 2
    go true = omega arith
    go false = omega arith

pub answer_short : (k : ℕ) → length (answer k) ≤ 11
answer_short zero = omega arith
answer_short (suc k) =
    let number = digits 10 (width (suc k)) (suc k) in
    omega (arith, length-append refused_word (number ++ (newline ∷ [])), length-append number (newline ∷ []), length_digits 10 (width (suc k)) (suc k), width_short (suc k))

length_line : (l c : ℕ) → length (order_line l c) ≡ 19
length_line l c = omega (arith, length-append (digits 16 16 c) (newline ∷ []), length_digits 16 16 c)

-- bytes of which the first 19 are cut off as a line, or all where there are fewer
module _ (line rest : List ℕ) (l c : ℕ) where
  whole_line : length line ≡ 19 → line ≡ order_line l c → line ≡ order_line l c ++ drop 19 line
  whole_line long e =
      let none : drop 19 line ≡ [] = drop_of_length-le line {i = 19} (omega arith) in
      e ∙ sym (append-nil (order_line l c)) ∙ ap (λ (t : List ℕ). order_line l c ++ t) (sym none)

  module _ (o : OrderFirst line l c) (short : length line ≤ 19) where
    line_is : line ≡ order_line l c
    line_is = o.is ∙ ap (λ (t : List ℕ). order_line l c ++ t) (drop_of_length-le line short) ∙ append-nil (order_line l c)

    pub line_left : drop 19 (line ++ rest) ≡ rest
    line_left = drop_at line rest 19 (omega (arith, short, order_long line l c o))

    pub line_begins : OrderFirst (line ++ rest) l c
    line_begins = record {
      letter = o.letter;
      code = o.code;
      is = ap₂ (λ (s t : List ℕ). s ++ t) line_is (sym line_left);
    }

  pub line_of : length line ≡ min 19 (length (line ++ rest)) → OrderFirst (line ++ rest) l c → OrderFirst line l c
  line_of cut o =
      let long : length line ≡ 19 = omega (arith, cut, order_long (line ++ rest) l c o) in
      record {
        letter = o.letter;
        code = o.code;
        is = whole_line long
            (sym (take_at line rest 19 long) ∙ ap (take 19) o.is ∙ take_at (order_line l c) (drop 19 (line ++ rest)) 19 (length_line l c));
      }

-- where the 16 bytes after a space are no digits, a line is no order line
pub no_digits : (line : List ℕ) (k : ℕ) → k ≡ 16 → 19 ≤ length line →
    ((n : ℕ) → take k (drop 2 line) ≡ digits 16 (length (take k (drop 2 line))) n → ⊥) → (l c : ℕ) → OrderFirst line l c → ⊥
no_digits line k e long none l c o =
    let m : length (take k (drop 2 line)) ≡ 16 = omega (arith, length-take k (drop 2 line), length-drop 2 line) in
    none c (ap (λ (j : ℕ). take j (drop 2 line)) e ∙ order_digits line l c o ∙ ap (λ (j : ℕ). digits 16 j c) (sym m))

-- a call that is refused is answered
pub refusal_number : (e : Refusal) → 0 < number e
refusal_number Solid = omega arith
refusal_number Face = omega arith
refusal_number Depth = omega arith
refusal_number Tail = omega arith
refusal_number Direction = omega arith
refusal_number Digit = omega arith
refusal_number Deep = omega arith
refusal_number Root = omega arith
refusal_number Point = omega arith
refusal_number Buffer = omega arith
refusal_number Mesh = omega arith
refusal_number NotLeaf = omega arith
refusal_number NotFour = omega arith
refusal_number (Blocked b) = omega arith
refusal_number Room = omega arith
