-- Orders done one after the other, on a mesh that stays sound.
--
--   grown_sound  == slots that a series of calls leaves are sound
--   Onward       == with what the bytes that are left print, the text is what the input prints
--   onward_start == before any order
--   order_onward == one order more
--   order_grown  == an order leaves such slots
use mathlib.Core.List.{List, [], ◌++◌, append_assoc}
use mathlib.Core.Logic.{inl, inr}
use mathlib.Core.Path.{◌≡◌, sym, subst}
use Prim.Native.Nat.{ℕ, ◌≤◌}
use lib.ListN.{length}
use Rattle.soundness.specs.Regions.{all_faces}
use Rattle.soundness.specs.Soundness.{Sound, SoundIn}
use Rattle.soundness.proofs.Fresh.{sound_solid}
use Rattle.examine.specs.Examined.{whole_of}
use Rattle.mesh.specs.Series.{refine, coarsen}
use Rattle.mesh.proofs.Series.{reach_sound}
use Rattle.listing.specs.Listing.{answer, OrderFirst, Done, Goes}
use Rattle.listing.specs.Listing as listing
use Rattle.listing.specs.Lines.{letter, code, Grown, Obeyed}
use Rattle.listing.specs.declared.Order.{Order}
use Rattle.listing.proofs.Lines.{line_begins, line_left}

pub grown_sound : (xs : List ℕ) → Grown xs → SoundIn (whole_of xs) xs
grown_sound xs g =
    let s = reach_sound g.reach in
    let e = sound_solid g.solid (all_faces g.solid) xs s in
    subst (λ (S : ℕ). Sound S (all_faces S) xs) (sym e) s

abbrev pub Onward : List ℕ → List ℕ → List ℕ → List ℕ → List ℕ → Type 0
Onward xs₀ bytes₀ xs bytes s = (t : List ℕ) → Goes xs bytes t → Goes xs₀ bytes₀ (s ++ t)

pub onward_start : (xs bytes rest p : List ℕ) → rest ≡ bytes → p ≡ [] → Onward xs bytes xs rest p
onward_start xs bytes rest p e f t goes =
    subst (λ (s : List ℕ). Goes xs bytes (s ++ t)) (sym f) (subst (λ (b : List ℕ). Goes xs b t) e goes)

-- one order more, of the line that comes next
pub order_onward : (xs₀ bytes₀ xs ys line rest p q : List ℕ) (o : Order) → OrderFirst line (letter o) (code o) → length line ≤ 19 → Obeyed o xs ys p q →
    Onward xs₀ bytes₀ xs (line ++ rest) p → Onward xs₀ bytes₀ ys rest q
order_onward xs₀ bytes₀ xs ys line rest p q o first short obeyed before t goes =
    let said = answer obeyed.outcome.reply.number in
    let next = subst (λ (zs : List ℕ). Goes zs rest t) obeyed.left goes in
    let left = subst (λ (b : List ℕ). Goes obeyed.outcome.slots b t) (sym (line_left line rest (letter o) (code o) first short)) next in
    subst (λ (s : List ℕ). Goes xs₀ bytes₀ (s ++ t)) (sym obeyed.put)
    (subst (Goes xs₀ bytes₀) (sym (append_assoc p said t))
    (before (said ++ t) (listing.order (letter o) (code o) (line_begins line rest (letter o) (code o) first short) obeyed.done left)))

pub order_grown : (xs ys p q : List ℕ) (o : Order) → Grown xs → Obeyed o xs ys p q → Grown ys
order_grown xs ys p q o g obeyed = subst Grown (sym obeyed.left) (go obeyed.done)
  where
    go : Done (letter o) xs (code o) obeyed.outcome → Grown obeyed.outcome.slots
    go (inl d) = record { solid = g.solid; reach = refine (whole_of xs) (code o) g.reach d.1 }
    go (inr d) = record { solid = g.solid; reach = coarsen (whole_of xs) (code o) g.reach d.1 }
