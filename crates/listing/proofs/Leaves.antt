-- The list of the leaves, line by line.
--
--   Upto L i s == with the lines of the leaves from i on, the text s is the whole list
--   no_line, line_more, all_lines == the list before its first line, one line more, and after its last line
use mathlib.Core.List.{List, [], ◌++◌, append_assoc, append-nil}
use mathlib.Core.Path.{◌≡◌, sym, subst}
use Prim.Native.Nat.{ℕ, suc, ◌+◌, ◌<◌, ◌≤◌}
use native.Mathlib.Omega.{arith}
use lib.ListN.{length, drop, get_or, drop_of_length-le}
use lib.Seq.{drop-cons}
use Rattle.listing.specs.Listing.{LeafLine, LeafLines, none, next}
use Rattle.listing.specs.Lines.{Printed}
use Rattle.listing.proofs.Lines.{put_after}

abbrev pub Upto : List ℕ → ℕ → List ℕ → Type 0
Upto L i s = (t : List ℕ) → LeafLines L (drop i L) t → LeafLines L L (s ++ t)

pub upto_none : (L : List ℕ) → Upto L 0 []
upto_none L t lines = lines

pub upto_more : (L : List ℕ) (i : ℕ) (s t : List ℕ) → i < length L → Upto L i s → LeafLine L (get_or L i 0) t → Upto L (i + 1) (s ++ t)
upto_more L i s t h upto line u lines =
    let e : i + 1 ≡ suc i = omega arith in
    let rest = subst (λ (j : ℕ). LeafLines L (drop j L) u) e lines in
    subst (LeafLines L L) (sym (append_assoc s t u))
    (upto (t ++ u) (subst (λ (A : List ℕ). LeafLines L A (t ++ u)) (sym (drop-cons L i 0 h)) (next line rest)))

pub upto_all : (L : List ℕ) (i : ℕ) (s : List ℕ) → length L ≤ i → Upto L i s → LeafLines L L s
upto_all L i s h upto =
    subst (LeafLines L L) (append-nil s)
    (upto [] (subst (λ (A : List ℕ). LeafLines L A []) (sym (drop_of_length-le L h)) none))

-- one line more, of the leaf at place i
pub line_more : (L : List ℕ) (i : ℕ) {p₀ p q : List ℕ} → i < length L → Printed (Upto L i) p₀ p → Printed (LeafLine L (get_or L i 0)) p q → Printed (Upto L (i + 1)) p₀ q
line_more L i {p₀} h a b = record { text = a.text ++ b.text; is = upto_more L i a.text b.text h a.is b.is; put = put_after p₀ a.text b.text a.put b.put }

pub no_line : (L : List ℕ) (p : List ℕ) → Printed (Upto L 0) p p
no_line L p = record { text = []; is = upto_none L; put = sym (append-nil p) }

pub all_lines : (L : List ℕ) (i : ℕ) {p q : List ℕ} → length L ≤ i → Printed (Upto L i) p q → Printed (LeafLines L L) p q
all_lines L i h a = record { text = a.text; is = upto_all L i a.text h a.is; put = a.put }
