-- What searches among leaves come to: where a code stands, where four children do, and the run of a cell.
use mathlib.Core.List.{List, [], ◌∷◌}
use mathlib.Core.Logic.{⊎_elim}
use mathlib.Core.Path.{◌≡◌, sym, ◌∙◌, ap}
use Prim.Native.Nat.{ℕ, zero, suc, ◌+◌, ◌-◌, ◌*◌, ◌%◌, ◌^◌, ◌<◌, ◌≤◌}
use native.Mathlib.Omega.{arith}
use lib.ListN.{length, get_or, take, drop}
use lib.Seq.{drop-cons}
use Rattle.std.proofs.Common.{slice_range}
use Rattle.solids.specs.Solids.{solid_of}
use Rattle.solids.proofs.Numbers.{faces_few}
use Rattle.codes.specs.Codes.{solid, depth, size, IsCode}
use Rattle.codes.specs.Places.{past, child_code}
use Rattle.codes.proofs.Sizes.{size_pos, place_two}
use Rattle.codes.proofs.Places.{code_on_solid}
use Rattle.soundness.specs.Leaves.{Leaf, Ascends}
use Rattle.soundness.specs.Changes.{children, under}
use Rattle.soundness.specs.Inner.{Below}
use Rattle.soundness.proofs.Cells.{le_or_lt, past_end}
use Rattle.soundness.proofs.Leaves.{at_leaf, asc_le, run_part}
use Rattle.soundness.proofs.Coarsened.{four_at}
use Rattle.leaves.specs.Leaves.{Covered}

-- a leaf stands where the search for it ends
pub below_leaf : (L : List ℕ) (x r : ℕ) → Ascends L → Below L x r → Leaf L x → (r < length L) × (get_or L r 0 ≡ x)
below_leaf L x r A b m =
    let n = at_leaf L x m in
    let e = n.is in
    let from : r ≤ n.at = ⊎_elim (λ h. h) (λ h. absurd (omega (arith, b.less n.at h))) (le_or_lt r n.at) in
    let low : r < length L = omega (arith, n.low) in
    (low, omega (arith, b.rest r (omega arith) low, asc_le L A r n.at from n.low))

-- where the first child stands, the others stand after it
pub fours_at : (L : List ℕ) (c i : ℕ) → Covered L → depth c < 26 → i < length L → get_or L i 0 ≡ child_code c 0 →
    ((q : ℕ) → q < 4 → Leaf L (child_code c q)) → (q : ℕ) → q < 4 → (i + q < length L) × (get_or L (i + q) 0 ≡ child_code c q)
fours_at L c i C d l e four q b = four_at C.solid C.faces L C.covers c d four i q l e b

-- four leaves side by side, one by one
range_four : (L : List ℕ) (i : ℕ) → i + 4 ≤ length L →
    slice_range L i (i + 4) ≡ get_or L i 0 ∷ get_or L (suc i) 0 ∷ get_or L (suc (suc i)) 0 ∷ get_or L (suc (suc (suc i))) 0 ∷ []
range_four L i h =
    let n : i + 4 - i ≡ 4 = omega arith in
    ap (λ (k : ℕ). take k (drop i L)) n
    ∙ ap (take 4)
    (drop-cons L i 0 (omega arith)
    ∙ ap (λ (t : List ℕ). get_or L i 0 ∷ t) (drop-cons L (suc i) 0 (omega arith)
    ∙ ap (λ (t : List ℕ). get_or L (suc i) 0 ∷ t) (drop-cons L (suc (suc i)) 0 (omega arith)
    ∙ ap (λ (t : List ℕ). get_or L (suc (suc i)) 0 ∷ t) (drop-cons L (suc (suc (suc i))) 0 (omega arith)))))

pub four_are : (L : List ℕ) (i c : ℕ) → i + 4 ≤ length L → slice_range L i (i + 4) ≡ children c → (q : ℕ) → q < 4 → get_or L (i + q) 0 ≡ child_code c q
four_are L i c h e q l = go (sym (range_four L i h) ∙ e) q l
  where
    at : (j k : ℕ) → j ≡ k → get_or L j 0 ≡ get_or L k 0
    at j k e = ap (λ (m : ℕ). get_or L m 0) e

    go : ◌≡◌ {A = List ℕ} (get_or L i 0 ∷ get_or L (suc i) 0 ∷ get_or L (suc (suc i)) 0 ∷ get_or L (suc (suc (suc i))) 0 ∷ []) (children c) →
        (q : ℕ) → q < 4 → get_or L (i + q) 0 ≡ child_code c q
    go f zero l = at (i + 0) i (omega arith) ∙ cc
    go f (suc zero) l = at (i + 1) (suc i) (omega arith) ∙ cc
    go f (suc (suc zero)) l = at (i + 2) (suc (suc i)) (omega arith) ∙ cc
    go f (suc (suc (suc zero))) l = at (i + 3) (suc (suc (suc i))) (omega arith) ∙ cc
    go f (suc (suc (suc (suc n)))) l = absurd (omega arith)

pub are_four : (L : List ℕ) (i c : ℕ) → i + 4 ≤ length L → ((q : ℕ) → q < 4 → get_or L (i + q) 0 ≡ child_code c q) → slice_range L i (i + 4) ≡ children c
are_four L i c h four =
    let at : (j q : ℕ) → q < 4 → j ≡ i + q → get_or L j 0 ≡ child_code c q = λ j q l e. ap (λ (m : ℕ). get_or L m 0) e ∙ four q l in
    range_four L i h
    ∙ ap (λ (x : ℕ). x ∷ get_or L (suc i) 0 ∷ get_or L (suc (suc i)) 0 ∷ get_or L (suc (suc (suc i))) 0 ∷ []) (at i 0 (omega arith) (omega arith))
    ∙ ap (λ (x : ℕ). child_code c 0 ∷ x ∷ get_or L (suc (suc i)) 0 ∷ get_or L (suc (suc (suc i))) 0 ∷ []) (at (suc i) 1 (omega arith) (omega arith))
    ∙ ap (λ (x : ℕ). child_code c 0 ∷ child_code c 1 ∷ x ∷ get_or L (suc (suc (suc i))) 0 ∷ []) (at (suc (suc i)) 2 (omega arith) (omega arith))
    ∙ ap (λ (x : ℕ). child_code c 0 ∷ child_code c 1 ∷ child_code c 2 ∷ x ∷ []) (at (suc (suc (suc i))) 3 (omega arith) (omega arith))

-- the four of which each one is compared
pub four_all : (xs : List ℕ) (i c : ℕ) → get_or xs i 0 ≡ child_code c 0 → get_or xs (i + 1) 0 ≡ child_code c 1 → get_or xs (i + 2) 0 ≡ child_code c 2 →
    get_or xs (i + 3) 0 ≡ child_code c 3 → (q : ℕ) → q < 4 → get_or xs (i + q) 0 ≡ child_code c q
four_all xs i c a b d e zero l = let z : i + 0 ≡ i = omega arith in ap (λ (k : ℕ). get_or xs k 0) z ∙ a
four_all xs i c a b d e (suc zero) l = b
four_all xs i c a b d e (suc (suc zero)) l = d
four_all xs i c a b d e (suc (suc (suc zero))) l = e
four_all xs i c a b d e (suc (suc (suc (suc n)))) l = absurd (omega arith)

-- the first code after a cell, as the code makes it
pub past_code : (c d : ℕ) → IsCode c → d ≡ depth c → (c - d + 1 * 2 ^ (57 - 2 * d) % 2 ^ 64 ≡ 32 * past c) × (32 * past c < 2 ^ 64)
past_code c d w e =
    let k = code_on_solid c w in
    let t : 2 ^ (57 - 2 * d) ≡ 32 * size (depth c) = place_two (depth c) (57 - 2 * d) w.deep (omega arith) in
    let b : 32 * past c < 2 ^ 64 = omega (arith, past_end c k, k.known, faces_few (solid_of (solid c))) in
    (rw t (omega arith), b)

-- the leaves between two searches
pub run_is : (L : List ℕ) (c i j : ℕ) → Covered L → IsCode c → Below L c i → Below L (32 * past c) j →
    (i ≤ j) × (j ≤ length L) × (take (j - i) (drop i L) ≡ under c L)
run_is L c i j C w A B =
    let h : i ≤ j = ⊎_elim (λ k. k) (λ k. absurd (omega (arith, A.less j k, B.rest j (omega arith) (omega (arith, A.upto)), size_pos (depth c)))) (le_or_lt i j) in
    (h, B.upto, sym (run_part C.solid (solid c) L C.covers.cells c i j (code_on_solid c w) A B))
