-- What a side of a leaf meets, read off from the cell over the side: the cell itself where it is a leaf, its parent where it
-- lies in a leaf, its two children on the side back where leaves lie in it, and nothing where it lies outside the faces.
--
--   equal_side, larger_side, smaller_side, open_side == these four
--   side_in                                          == a side with a neighbour on the faces meets one leaf, equal or larger, or exactly two smaller
--   whole_side                                       == on the whole solid each side does
--
-- Assumes nothing.
use mathlib.Core.List.{List}
use mathlib.Core.Logic.{◌⊎◌, inl, inr, ⊎_elim}
use mathlib.Core.Path.{◌≡◌, refl, sym, ◌∙◌, ap, subst}
use Prim.Native.Nat.{ℕ, suc, ◌+◌, ◌*◌, ◌<◌, ◌≤◌}
use native.Mathlib.Nat.{mul-le-mul_right}
use native.Mathlib.Omega.{arith}
use Rattle.codes.specs.Codes.{depth, size}
use Rattle.codes.specs.Places.{place, CodeOn, child_code, parent_code}
use Rattle.codes.proofs.Sizes.{size_pos}
use Rattle.steps.specs.Edges.{back_no, first, second, OnEdge, StepLaws}
use Rattle.steps.proofs.Laws.{back<}
use Rattle.soundness.specs.Regions.{InFaces, all_faces}
use Rattle.soundness.specs.Leaves.{Leaf, Holds, In, Apart}
use Rattle.soundness.specs.Soundness.{Held, Covers, Meets, Level, Mesh}
use Rattle.soundness.specs.Sides.{Only, MetIs, OneOrTwo, one_larger, one_equal, two_smaller}
use Rattle.soundness.specs.declared.Met.TheVariants.{Larger, Equal, Smaller, Open}
use Rattle.soundness.specs.Inner.{Inner, Around, Where, equal, inner, outer}
use Rattle.soundness.proofs.Cells.{common, inq_in, inq_out, holds_place, in_holds, in_place, both_around, in_same, apart_holds, depth_child, place_child, child_in, child_cell, in_kid, as_kid}
use Rattle.soundness.proofs.Leaves.{one_holder, leaves_apart, where_is}
use Rattle.soundness.proofs.Fresh.{all_faces_in}
use Rattle.soundness.proofs.Edges.{back_back, first_second, edge_four, edge_or}
use Rattle.soundness.proofs.Sides.{over, side_place, step_apart, meets_step, meets_by, meets_in, in_meets, meets_back}
use Rattle.soundness.proofs.Level.{meets_apart, inner_held, deeper_than}

module _ (S Q : ℕ) (step : ℕ → ℕ → ℕ) (N : StepLaws S step) (L : List ℕ) (C : Covers S Q L) (E : Level L)
    (a s : ℕ) (ma : Leaf L a) (l : s < 3) where
  on_a : CodeOn S a
  on_a = C.cells a ma

  step_apart_a : Apart (step s a) a
  step_apart_a = step_apart S step N s a l on_a

  not_a : (x g : ℕ) → Holds x g → Holds (step s a) g → x ≡ a → ⊥
  not_a x g h k e = apart_holds (step s a) a g step_apart_a k (subst (λ (y : ℕ). Holds y g) e h)

  -- a leaf that is the neighbour, or around it
  around_only : (b : ℕ) → Leaf L b → In (step s a) b → Only L a s b
  around_only b mb i =
      let n = step s a in
      let ne : a ≡ b → ⊥ = λ e. not_a b (place n) (in_place n b i) (holds_place n) (sym e) in
      record {
        leaf = mb;
        meets = in_meets S step N a s b l on_a (leaves_apart S Q L C a b ma mb ne) i;
        no_other = λ x mx m.
            let h = in_holds n b m.beyond i (meets_step S step N a s x l on_a m) in
            one_holder S Q L C x b m.beyond mx mb m.across h;
      }

  pub equal_side : Leaf L (step s a) → MetIs L a s (Equal (step s a))
  equal_side m = (around_only (step s a) m (omega arith, omega arith), N.level s a l on_a)

  pub larger_side : Around L (step s a) → MetIs L a s (Larger (parent_code (step s a)))
  larger_side r =
      let n = step s a in
      let dn : depth n ≡ depth a = N.level s a l on_a in
      let b = r.leaf in
      let o = around_only b r.is r.around in
      let v = E a s b ma r.is l o.meets in
      let k = as_kid n (N.on s a l on_a) (omega (arith, r.larger)) in
      let i = both_around n (parent_code n) b k.cell (C.cells b r.is) (omega (arith, k.up, r.larger)) k.inside r.around in
      let e : parent_code n ≡ b = in_same (parent_code n) b i (omega (arith, k.up, r.larger, v.0)) in
      subst (λ (x : ℕ). Only L a s x × (depth x + 1 ≡ depth a)) (sym e) (o, omega (arith, r.larger, v.0))

  -- each child of the neighbour on the side back has a place whose neighbour lies in a

  record EdgePlace (k : ℕ) : Type 0 where
    at : ℕ
    inside : Holds k at
    across : Holds a (over step (back_no s) at)

  edge_place : (m : ℕ) → depth (step s a) < 26 → OnEdge (back_no s) m → EdgePlace (child_code (step s a) m)
  edge_place m d on =
      let n = step s a in
      let t = back_no s in
      let wn = N.on s a l on_a in
      let p = side_place S step N t (child_code n m) (back< s) (child_cell n m wn d (edge_four t m on)) in
      let o = over step t p.at in
      let r = N.edge t n m (back< s) wn d on in
      let i = child_in (step t n) r.digit (omega (arith, N.level t n (back< s) wn)) (edge_four (back_no t) r.digit r.on) in
      let h = in_holds (child_code (step t n) r.digit) (step t n) o i (subst (λ (x : ℕ). Holds x o) r.is p.across) in
      record { at = p.at; inside = p.inside; across = subst (λ (x : ℕ). Holds x o) (N.undo s a l on_a) h }

  -- so it is a leaf, and meets a: the leaf at that place is strictly inside the neighbour, and at most one level below a

  abbrev SmallerLeaf : ℕ → Type 0
  SmallerLeaf k = Leaf L k × Meets a s k × (depth k ≡ depth a + 1)

  edge_held : Inner L (step s a) → (m : ℕ) → depth (step s a) < 26 → m < 4 → (p : EdgePlace (child_code (step s a) m)) → Held L p.at →
      SmallerLeaf (child_code (step s a) m)
  edge_held j m d four p f =
      let n = step s a in
      let k = child_code n m in
      let t = back_no s in
      let g = p.at in
      let x = f.leaf in
      let wn = N.on s a l on_a in
      let wx = C.cells x f.is in
      let dn : depth n ≡ depth a = N.level s a l on_a in
      let dk : depth k ≡ depth n + 1 = depth_child n m d in
      let hn = in_holds k n g (child_in n m d four) p.inside in
      let deep : depth n < depth x = deeper_than S Q L C n x g wn j f.is f.holds hn in
      let ne : x ≡ a → ⊥ = not_a x g f.holds hn in
      let out : Holds x (over step t g) → ⊥ = λ h. ne (one_holder S Q L C x a (over step t g) f.is ma h p.across) in
      let m₁ = meets_by S step N x t a g (back< s) wx f.holds p.across out in
      let v : depth x ≤ depth a + 1 = (E x t a f.is ma (back< s) m₁).0 in
      let e : x ≡ k = in_same x k (common x k g wx (child_cell n m wn d four) (omega arith) f.holds p.inside) (omega arith) in
      let m₂ = meets_back S step N x t a (back< s) wx (leaves_apart S Q L C x a f.is ma ne) m₁ in
      subst SmallerLeaf e (f.is, subst (λ (u : ℕ). Meets a u x) (back_back s l) m₂, omega arith)

  edge_leaf : Inner L (step s a) → (m : ℕ) → depth (step s a) < 26 → OnEdge (back_no s) m → SmallerLeaf (child_code (step s a) m)
  edge_leaf j m d on =
      let n = step s a in
      let four = edge_four (back_no s) m on in
      let p = edge_place m d on in
      let h = in_holds (child_code n m) n p.at (child_in n m d four) p.inside in
      edge_held j m d four p (inner_held S Q L C n p.at (N.on s a l on_a) j h)

  -- a child of the neighbour that meets a is on the side back: the others step to children of the neighbour, not to a
  on_edge : (x q : ℕ) → depth (step s a) < 26 → q < 4 → x ≡ child_code (step s a) q → In (step (back_no s) x) a →
      (x ≡ child_code (step s a) (first (back_no s))) ⊎ (x ≡ child_code (step s a) (second (back_no s)))
  on_edge x q d four e i =
      let n = step s a in
      let t = back_no s in
      ⊎_elim
      (λ (on : OnEdge t q). ⊎_elim (λ h. inl (e ∙ ap (child_code n) h)) (λ h. inr (e ∙ ap (child_code n) h)) on)
      (λ (off : OnEdge t q → ⊥).
      let r = N.within t n q (back< s) (N.on s a l on_a) d four off in
      let y = child_code n r.digit in
      let ya : In y a = subst (λ (z : ℕ). In z a) (ap (step t) e ∙ r.is) i in
      absurd (apart_holds n a (place y) step_apart_a (in_place y n (child_in n r.digit d r.four)) (in_place y a ya)))
      (edge_or t q)

  -- and no other leaf does
  edge_only : Inner L (step s a) → (x : ℕ) → Leaf L x → Meets a s x →
      (x ≡ child_code (step s a) (first (back_no s))) ⊎ (x ≡ child_code (step s a) (second (back_no s)))
  edge_only j x mx m =
      let n = step s a in
      let wx = C.cells x mx in
      let wn = N.on s a l on_a in
      let dn : depth n ≡ depth a = N.level s a l on_a in
      let d : depth n < 26 = omega (arith, j.deeper, (C.cells j.leaf j.is).deep) in
      let hn = meets_step S step N a s x l on_a m in
      let deep : depth n < depth x = deeper_than S Q L C n x m.beyond wn j mx m.across hn in
      let xn : In x n = common x n m.beyond wx wn (omega arith) m.across hn in
      let mb = meets_back S step N a s x l on_a (meets_apart S Q L C a s x ma mx m) m in
      let v : depth x ≤ depth a + 1 = (E a s x ma mx l m).1 in
      let k = in_kid x n wx wn xn (λ e. omega (arith, ap depth e)) in
      let q = k.1.digit in
      let e : x ≡ child_code n q = in_same x (child_code n q) k.1.is (omega (arith, depth_child n q d)) in
      on_edge x q d k.1.four e (meets_in S step N x (back_no s) a (back< s) wx on_a (omega arith) mb)

  pub smaller_side : Inner L (step s a) →
      MetIs L a s (Smaller (child_code (step s a) (first (back_no s))) (child_code (step s a) (second (back_no s))))
  smaller_side j =
      let n = step s a in
      let t = back_no s in
      let d : depth n < 26 = omega (arith, j.deeper, (C.cells j.leaf j.is).deep) in
      let lf = edge_leaf j (first t) d (inl refl) in
      let ls = edge_leaf j (second t) d (inr refl) in
      let u = size (depth n + 1) in
      let h : suc (first t) * u ≤ second t * u = mul-le-mul_right u (first_second t).0 in
      let p : place (child_code n (first t)) < place (child_code n (second t)) =
      omega (arith, place_child n (first t) d, place_child n (second t) d, size_pos (depth n + 1)) in
      record {
        order = omega arith;
        leaf = lf.0;
        leaf' = ls.0;
        meets = lf.1;
        meets' = ls.1;
        no_other = edge_only j;
        deeper = lf.2;
        deeper' = ls.2;
      }

  pub open_side : (InFaces Q (place (step s a)) → ⊥) → MetIs L a s Open
  open_side o x mx m =
      let h = meets_step S step N a s x l on_a m in
      o (inq_out Q (step s a) m.beyond (N.on s a l on_a) h (inq_in Q x m.beyond (C.cells x mx) m.across (C.only x mx)))

  pub side_in : InFaces Q (place (step s a)) → OneOrTwo L a s
  side_in i = go (where_is S Q L C (step s a) (N.on s a l on_a) i)
    where
      go : Where L (step s a) → OneOrTwo L a s
      go (equal m) = one_equal (step s a) (equal_side m)
      go (inner j) = two_smaller (child_code (step s a) (first (back_no s))) (child_code (step s a) (second (back_no s))) (smaller_side j)
      go (outer r) = one_larger (parent_code (step s a)) (larger_side r)

pub whole_side : (S : ℕ) (step : ℕ → ℕ → ℕ) → StepLaws S step → (L : List ℕ) → Mesh S (all_faces S) L →
    (a s : ℕ) → Leaf L a → s < 3 → OneOrTwo L a s
whole_side S step N L M a s ma l =
    let w = N.on s a l (M.covers.cells a ma) in
    side_in S (all_faces S) step N L M.covers M.level a s ma l (all_faces_in S (place (step s a)) w.from w.below)
