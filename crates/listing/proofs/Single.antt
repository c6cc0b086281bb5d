-- For each input there is one text: a line is of one form, a call has one answer, a side meets one thing.
use mathlib.Core.List.{List, [], ◌∷◌, ◌++◌}
use mathlib.Core.Logic.{inl, inr}
use mathlib.Core.Path.{◌≡◌, refl, ap, ap₂, sym, ◌∙◌, subst}
use Prim.Native.Nat.{ℕ}
use native.Mathlib.Omega.{arith}
use lib.ListN.{length, drop}
use Rattle.refusals.specs.Refusals.{Single}
use Rattle.soundness.specs.Regions.{all_faces}
use Rattle.soundness.specs.Leaves.{leaves}
use Rattle.soundness.specs.declared.Met.{Met}
use Rattle.soundness.proofs.Answers.{met_single}
use Rattle.examine.specs.Examined.{whole_of}
use Rattle.mesh.specs.Answers.{Outcome}
use Rattle.mesh.specs.Calls.{Freshened}
use Rattle.mesh.proofs.Single.{fresh_single, refine_single, coarsen_single}
use Rattle.text.specs.Text.{digits}
use Rattle.text.proofs.Text.{digits_one}
use Rattle.listing.specs.Listing.{newline, SolidFirst, OrderFirst, Done, answer, difference, LeafLine, LeafLines, none, next, Goes, order, other, lists, bare, Prints, long, unread, no_mesh, mesh}
use Rattle.listing.proofs.Lines.{solid_digit, order_long, order_letter, order_digits}

solid_one : (B : List ℕ) (d e : ℕ) → SolidFirst B d → SolidFirst B e → d ≡ e
solid_one B d e s t = omega (arith, solid_digit B d s, solid_digit B e t)

letter_one : (B : List ℕ) (l c m d : ℕ) → OrderFirst B l c → OrderFirst B m d → l ≡ m
letter_one B l c m d o p = sym (order_letter B l c o) ∙ order_letter B m d p

code_one : (B : List ℕ) (l c m d : ℕ) → OrderFirst B l c → OrderFirst B m d → c ≡ d
code_one B l c m d o p = digits_one 16 c d o.code p.code (sym (order_digits B l c o) ∙ order_digits B m d p)

done_one : (l : ℕ) (xs : List ℕ) (c : ℕ) → Single (Done l xs c)
done_one l xs c a b (inl p) (inl q) = refine_single (whole_of xs) xs c a b p.1 q.1
done_one l xs c a b (inl p) (inr q) = absurd (omega (arith, p.0, q.0))
done_one l xs c a b (inr p) (inl q) = absurd (omega (arith, p.0, q.0))
done_one l xs c a b (inr p) (inr q) = coarsen_single (whole_of xs) xs c a b p.1 q.1

line_one : (L : List ℕ) (a : ℕ) → Single (LeafLine L a)
line_one L a s t p q =
    let tail : List ℕ = newline ∷ [] in
    let e₀ = met_single L a 0 p.met₀ q.met₀ p.side₀ q.side₀ in
    let e₁ = met_single L a 1 p.met₁ q.met₁ p.side₁ q.side₁ in
    let e₂ = met_single L a 2 p.met₂ q.met₂ p.side₂ q.side₂ in
    p.is
    ∙ ap (λ (m : Met). digits 16 16 a ++ (difference m ++ (difference p.met₁ ++ (difference p.met₂ ++ tail)))) e₀
    ∙ ap₂ (λ (m n : Met). digits 16 16 a ++ (difference q.met₀ ++ (difference m ++ (difference n ++ tail)))) e₁ e₂
    ∙ sym q.is

lines_one : (L A : List ℕ) → Single (LeafLines L A)
lines_one L A s t none none = refl
lines_one L A s t (next {a} {A = B} {s = u} {t = v} p q) (next {s = u'} {t = v'} p' q') =
    ap₂ (λ (x y : List ℕ). x ++ y) (line_one L a u u' p p') (lines_one L B v v' q q')

same_order : (xs B : List ℕ) (l c m d : ℕ) (o p : Outcome) → OrderFirst B l c → OrderFirst B m d → Done l xs c o → Done m xs d p → o ≡ p
same_order xs B l c m d o p f g h k =
    let e = subst (λ (n : ℕ). Done n xs d p) (sym (letter_one B l c m d f g)) k in
    done_one l xs c o p h (subst (λ (n : ℕ). Done l xs n p) (sym (code_one B l c m d f g)) e)

goes_one : (xs B : List ℕ) → Single (Goes xs B)
goes_one xs B s t (order {t = u} {o} l c f h g) (order {t = v} {o = p} m d f' h' g') =
    let e = same_order xs B l c m d o p f f' h h' in
    let rest = goes_one o.slots (drop 19 B) u v g (subst (λ (q : Outcome). Goes q.slots (drop 19 B) v) (sym e) g') in
    ap₂ (λ (q : Outcome) (x : List ℕ). answer q.reply.number ++ x) e rest
goes_one xs B s t (order l c f h g) (other some free) = absurd (free l c f)
goes_one xs B s t (order l c f h g) (lists e list) = absurd (omega (arith, ap length e, order_long B l c f))
goes_one xs B s t (other some free) (order l c f h g) = absurd (free l c f)
goes_one xs B s t (other some free) (other some' free') = refl
goes_one xs B s t (other some free) (lists e list) = absurd (some e)
goes_one xs B s t (lists e list) (order l c f h g) = absurd (omega (arith, ap length e, order_long B l c f))
goes_one xs B s t (lists e list) (other some free) = absurd (some e)
goes_one xs B s t (lists e list) (lists e' list') = lines_one (leaves xs) (leaves xs) s t list list'

same_mesh : (B : List ℕ) (d e : ℕ) (o p : Outcome) → SolidFirst B d → SolidFirst B e → Freshened d (all_faces d) bare o → Freshened e (all_faces e) bare p → o ≡ p
same_mesh B d e o p s t f g =
    fresh_single d (all_faces d) bare o p f (subst (λ (n : ℕ). Freshened n (all_faces n) bare p) (sym (solid_one B d e s t)) g)

pub prints_one : (B : List ℕ) → Single (Prints B)
prints_one B s t (long h) (long k) = refl
prints_one B s t (long h) (unread k free) = refl
prints_one B s t (long h) (no_mesh d k f g n) = absurd (omega (arith, h, k))
prints_one B s t (long h) (mesh d k f g z r) = absurd (omega (arith, h, k))
prints_one B s t (unread h free) (long k) = refl
prints_one B s t (unread h free) (unread k free') = refl
prints_one B s t (unread h free) (no_mesh d k f g n) = absurd (free d f)
prints_one B s t (unread h free) (mesh d k f g z r) = absurd (free d f)
prints_one B s t (no_mesh d h f g n) (long k) = absurd (omega (arith, h, k))
prints_one B s t (no_mesh d h f g n) (unread k free) = absurd (free d f)
prints_one B s t (no_mesh {o} d h f g n) (no_mesh {o = p} e k f' g' n') = ap (λ (q : Outcome). answer q.reply.number) (same_mesh B d e o p f f' g g')
prints_one B s t (no_mesh {o} d h f g n) (mesh {o = p} e k f' g' z r) = absurd (n (ap (λ (q : Outcome). q.reply.number) (same_mesh B d e o p f f' g g') ∙ z))
prints_one B s t (mesh d h f g z r) (long k) = absurd (omega (arith, h, k))
prints_one B s t (mesh d h f g z r) (unread k free) = absurd (free d f)
prints_one B s t (mesh {o} d h f g z r) (no_mesh {o = p} e k f' g' n) = absurd (n (ap (λ (q : Outcome). q.reply.number) (same_mesh B e d p o f' f g' g) ∙ z))
prints_one B s t (mesh {o} d h f g z r) (mesh {o = p} e k f' g' z' r') =
    let same = same_mesh B d e o p f f' g g' in
    goes_one o.slots (drop 2 B) s t r (subst (λ (q : Outcome). Goes q.slots (drop 2 B) t) (sym same) r')
