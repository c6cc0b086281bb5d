-- "Leaves that share a stretch of a side differ by at most one level" holds exactly when no cell with leaves strictly inside
-- it has a larger leaf over a side.
--
--   OneWay L                   == of leaves that meet, the one is at most one level deeper than the other
--   both-ways                  == as meeting is mutual, that is enough
--   inner_held                 == each place of a cell with leaves strictly inside it is in a leaf
--   deeper_than                == which is one of these
--   parent_inner               == the parent of a leaf has leaves strictly inside it
--   Inners S Q step L          == over each side of a cell with leaves strictly inside it, the neighbour lies outside the faces, or
--                         some leaf is in it
--   level_inners, inners_level == it says what Level says
--
-- Assumes nothing.
use mathlib.Core.List.{List}
use mathlib.Core.Logic.{inl, inr, ⊎_elim}
use mathlib.Core.Path.{◌≡◌, sym, ◌∙◌, ap, subst}
use Prim.Native.Nat.{ℕ, ◌+◌, ◌<◌, ◌≤◌}
use native.Mathlib.Omega.{arith}
use Rattle.codes.specs.Codes.{depth}
use Rattle.codes.specs.Places.{place, CodeOn, child_code, parent_code, last_digit}
use Rattle.steps.specs.Edges.{back_no, OnEdge, StepLaws}
use Rattle.steps.proofs.Laws.{back<}
use Rattle.soundness.specs.Regions.{InFaces}
use Rattle.soundness.specs.Leaves.{Leaf, Holds, In, Apart}
use Rattle.soundness.specs.Soundness.{Held, Covers, Meets, Level}
use Rattle.soundness.specs.Inner.{Inner, Around, Fine}
use Rattle.soundness.proofs.Cells.{le_or_lt, common, past_end, inq_in, inq_or, in_holds, in_place, in_trans, both_around, child_in, Kid, as_kid}
use Rattle.soundness.proofs.Leaves.{one_holder, in_one, leaves_apart, around_not, present_or, present_inq, inner_present}
use Rattle.soundness.proofs.Edges.{edge_four, edge_or}
use Rattle.soundness.proofs.Meets.{meets_not_self}
use Rattle.soundness.proofs.Sides.{over, side_place, meets_by, meets_in, meets_back}

abbrev pub OneWay : List ℕ → Type 0
OneWay L = (a s b : ℕ) → Leaf L a → Leaf L b → s < 3 → Meets a s b → depth a ≤ depth b + 1

abbrev pub Inners : ℕ → ℕ → (ℕ → ℕ → ℕ) → List ℕ → Type 0
Inners S Q step L = (p s : ℕ) → CodeOn S p → Inner L p → s < 3 → Fine Q L (step s p)

module _ (S Q : ℕ) (L : List ℕ) (C : Covers S Q L) where
  pub meets_apart : (a s b : ℕ) → Leaf L a → Leaf L b → Meets a s b → Apart a b
  meets_apart a s b ma mb m = leaves_apart S Q L C a b ma mb (λ e. meets_not_self a s b m (sym e))

  pub deeper_than : (p x g : ℕ) → CodeOn S p → Inner L p → Leaf L x → Holds x g → Holds p g → depth p < depth x
  deeper_than p x g w n mx hx hp =
      ⊎_elim
      (λ (h : depth x ≤ depth p).
      let k = common p x g w (C.cells x mx) h hp hx in
      let e : n.leaf ≡ x = in_one S Q L C n.leaf x n.is mx (in_trans n.leaf p x n.inside k) in
      absurd (omega (arith, ap depth e, n.deeper)))
      (λ h. h)
      (le_or_lt (depth x) (depth p))

  pub inner_held : (p g : ℕ) → CodeOn S p → Inner L p → Holds p g → Held L g
  inner_held p g w n h =
      let i = present_inq S Q L C p w (inner_present S Q L C p n) in
      C.cover g (omega (arith, w.from, h.0)) (omega (arith, past_end p w, h.1)) (inq_in Q p g w h i)

  pub parent_inner : (a : ℕ) → Leaf L a → 0 < depth a → Kid S a × Inner L (parent_code a)
  parent_inner a m d =
      let k = as_kid a (C.cells a m) d in
      (k, record { leaf = a; is = m; inside = k.inside; deeper = omega (arith, k.up) })

module _ (S Q : ℕ) (step : ℕ → ℕ → ℕ) (N : StepLaws S step) (L : List ℕ) (C : Covers S Q L) where
  pub both_ways : OneWay L → Level L
  both_ways f a s b ma mb l m =
      let m' = meets_back S step N a s b l (C.cells a ma) (meets_apart S Q L C a s b ma mb m) m in
      (f a s b ma mb l m, f b (back_no s) a mb ma (back< s) m')

  -- a leaf strictly around the neighbour of p meets a leaf inside p, two levels deeper or more
  pub level_inners : Level L → Inners S Q step L
  level_inners v p s w n l =
      ⊎_elim
      (λ i. ⊎_elim (λ h. inr h) (λ a. absurd (clash i a)) (present_or S Q L C (step s p) (N.on s p l w) i))
      (λ h. inl h)
      (inq_or Q (place (step s p)))
    where
      clash : InFaces Q (place (step s p)) → Around L (step s p) → ⊥
      clash i a =
          let b = a.leaf in
          let sp = side_place S step N s p l w in
          let g = sp.at in
          let r = inner_held S Q L C p g w n sp.inside in
          let x = r.leaf in
          let dx : depth p < depth x = deeper_than S Q L C p x g w n r.is r.holds sp.inside in
          let db : depth b < depth p = omega (arith, a.larger, N.level s p l w) in
          let ne : x ≡ b → ⊥ = λ e. omega (arith, ap depth e) in
          let h = in_holds (step s p) b (over step s g) a.around sp.across in
          let out : Holds x (over step s g) → ⊥ = λ k. ne (one_holder S Q L C x b (over step s g) r.is a.is k h) in
          let m = meets_by S step N x s b g l (C.cells x r.is) r.holds h out in
          omega (arith, (v x s b r.is a.is l m).0)

  -- a leaf b over side s of a, two levels larger or more, is strictly around the neighbour of a's parent; or around the parent
  pub inners_level : Inners S Q step L → Level L
  inners_level f =
      both_ways (λ a s b ma mb l m.
      ⊎_elim
      (λ h. h)
      (λ (h : depth b + 1 < depth a).
      let i = meets_in S step N a s b l (C.cells a ma) (C.cells b mb) (omega arith) m in
      absurd (clash a s b ma mb l i h))
      (le_or_lt (depth a) (depth b + 1)))
    where
      clash : (a s b : ℕ) → Leaf L a → Leaf L b → s < 3 → In (step s a) b → depth b + 1 < depth a → ⊥
      clash a s b ma mb l i h =
          let wa = C.cells a ma in
          let wb = C.cells b mb in
          let pi = parent_inner S Q L C a ma (omega arith) in
          let k = pi.0 in
          let p = parent_code a in
          let q = last_digit a in
          let wp = k.cell in
          let dp : depth p < 26 = omega (arith, k.up, wa.deep) in
          ⊎_elim
          (λ (e : OnEdge s q).
          let r = N.edge s p q l wp dp e in
          let n = step s p in
          let wn = N.on s p l wp in
          let dn : depth n ≡ depth p = N.level s p l wp in
          let t = child_code n r.digit in
          let st : step s a ≡ t = ap (step s) k.is ∙ r.is in
          let it : In t b = subst (λ (x : ℕ). In x b) st i in
          let tn : In t n = child_in n r.digit (omega arith) (edge_four (back_no s) r.digit r.on) in
          let nb : In n b = both_around t n b wn wb (omega (arith, k.up)) tn it in
          ⊎_elim
          (λ o. o (inq_in Q b (place n) wb (in_place n b nb) (C.only b mb)))
          (λ pr. around_not S Q L C n wn (record { leaf = b; is = mb; around = nb; larger = omega (arith, k.up) }) pr)
          (f p s wp pi.1 l))
          (λ (e : OnEdge s q → ⊥).
          let r = N.within s p q l wp dp k.four e in
          let t = child_code p r.digit in
          let st : step s a ≡ t = ap (step s) k.is ∙ r.is in
          let it : In t b = subst (λ (x : ℕ). In x b) st i in
          let tp : In t p = child_in p r.digit dp r.four in
          let pb : In p b = both_around t p b wp wb (omega (arith, k.up)) tp it in
          let ab : a ≡ b = in_one S Q L C a b ma mb (in_trans a p b k.inside pb) in
          omega (arith, ap depth ab))
          (edge_or s q)
