-- Steps and sides. The first laws turn the corner rule, by which leaves meet, into the step: what lies beyond a finest cell
-- is its step. From there the mesh asks only for the laws of the step, and speaks of no corner.
--
--   over step s g == the place of the finest cell over side s of the finest cell at the place g
--   beyond_is     == where cells meet, what lies beyond is over the side
--   meets_by      == where a finest cell of b is over the side of one of a, and not in a, they meet
--   across_or_in  == what is over side s of a place of a cell lies in the cell or in its neighbour
--   side_place    == some place of a cell has its neighbour in the cell's neighbour
--   meets_in      == a leaf that is met and not smaller has the neighbour in it
--   in_meets      == and back
--   meets_back    == what a meets over s, meets a over the way back
--
-- Assumes nothing.
use mathlib.Core.Logic.{◌⊎◌, inl, inr, ⊎_elim}
use mathlib.Core.Path.{◌≡◌, refl, sym, ◌∙◌, ap, subst}
use Prim.Native.Nat.{ℕ, zero, suc, ◌+◌, ◌%◌, ◌<◌, ◌≤◌}
use native.Mathlib.Omega.{arith}
use Rattle.solids.specs.Triangles.{Side, side_of}
use Rattle.solids.specs.Solids.{solid_no}
use Rattle.solids.proofs.Numbers.{solid_no-solid_of}
use Rattle.geometry.specs.Neighbours.{Neighbour}
use Rattle.codes.specs.Codes.{solid, depth, size, IsCode, cell_of}
use Rattle.codes.specs.Places.{place, code_at, CodeOn, child_code}
use Rattle.codes.proofs.Places.{code_on_solid, solid_is, on_solid_code}
use Rattle.steps.specs.Edges.{back_no, first, OnEdge, StepLaws}
use Rattle.steps.proofs.Laws.{back<}
use Rattle.soundness.specs.Leaves.{Holds, In, Apart}
use Rattle.soundness.specs.Soundness.{Meets}
use Rattle.soundness.proofs.Cells.{le_or_lt, size_26, common, past_end, holds_place, in_holds, in_same, nested_or_apart, apart_holds, depth_child, child_in, child_cell, in_child}
use Rattle.soundness.proofs.Edges.{edge_four, edge_or}

-- finest cells

finest_is : (c g : ℕ) → depth c ≡ 26 → Holds c g → c ≡ code_at g 26
finest_is c g d h =
    let e : size (depth c) ≡ 1 = ap size d ∙ size_26 in
    omega (arith, h.0, h.1)

finest_on : {S : ℕ} (a g : ℕ) → CodeOn S a → Holds a g → CodeOn S (code_at g 26)
finest_on {S} a g w h =
    let d : depth (code_at g 26) ≡ 26 = omega arith in
    let e : size (depth (code_at g 26)) ≡ 1 = ap size d ∙ size_26 in
    record {
      known = w.known;
      from = omega (arith, w.from, h.0);
      below = omega (arith, past_end a w, h.1);
      deep = omega arith;
      tail = ap (λ (n : ℕ). place (code_at g 26) % n) e ∙ omega arith;
    }

neighbour_on : (S : ℕ) (s : Side) (x y : ℕ) → CodeOn S x → IsCode y → Neighbour s (cell_of x) (cell_of y) → CodeOn S y
unfolding cell_of
neighbour_on S s x y w c n =
    let k = (on_solid_code S x w).known in
    let e : solid y ≡ solid x = sym (solid_no-solid_of (solid y) c.known) ∙ ap solid_no n.solid ∙ solid_no-solid_of (solid x) k in
    subst (λ (T : ℕ). CodeOn T y) (e ∙ solid_is S x w) (code_on_solid y c)

abbrev pub over : (ℕ → ℕ → ℕ) → ℕ → ℕ → ℕ
over step s g = place (step s (code_at g 26))

-- a place at side s of a
pub record SidePlace (step : ℕ → ℕ → ℕ) (s a : ℕ) : Type 0 where
  pub at : ℕ
  pub inside : Holds a at
  pub across : Holds (step s a) (over step s at)

-- for a cell of depth 26, its only place
at_finest : (step : ℕ → ℕ → ℕ) (s a g : ℕ) → depth a ≡ 26 → Holds a g → Holds (step s a) (over step s g)
at_finest step s a g d k = subst (λ (x : ℕ). Holds (step s a) (place (step s x))) (finest_is a g d k) (holds_place (step s a))

module _ (S : ℕ) (step : ℕ → ℕ → ℕ) (N : StepLaws S step) where
  -- from corners to the step, and back

  step_is : (a s b : ℕ) → s < 3 → CodeOn S a → (m : Meets a s b) → code_at m.beyond 26 ≡ step s (code_at m.finest 26)
  step_is a s b l w m =
      let x = code_at m.finest 26 in
      let y = code_at m.beyond 26 in
      let k = finest_on a m.finest w m.inside in
      N.only s x y l k (neighbour_on S (side_of s) x y k m.code m.corners) m.corners

  pub beyond_is : (a s b : ℕ) → s < 3 → CodeOn S a → (m : Meets a s b) → m.beyond ≡ over step s m.finest
  beyond_is a s b l w m = omega (arith, step_is a s b l w m)

  pub meets_by : (a s b g : ℕ) → s < 3 → CodeOn S a → Holds a g → Holds b (over step s g) → (Holds a (over step s g) → ⊥) → Meets a s b
  meets_by a s b g l w h k n =
      let x = code_at g 26 in
      let wx = finest_on a g w h in
      let y = step s x in
      let d : depth y ≡ 26 = N.level s x l wx ∙ omega arith in
      let e : y ≡ code_at (place y) 26 = omega arith in
      record {
        finest = g;
        beyond = place y;
        inside = h;
        across = k;
        outside = n;
        code = subst IsCode e (on_solid_code S y (N.on s x l wx));
        corners = subst (λ (z : ℕ). Neighbour (side_of s) (cell_of x) (cell_of z)) e (N.corner s x l wx);
      }

  -- the step of a child holds nothing that neither the cell nor its own step holds
  raise : (s a q g : ℕ) → s < 3 → CodeOn S a → depth a < 26 → q < 4 →
      Holds (child_code a q) g ⊎ Holds (step s (child_code a q)) g → Holds a g ⊎ Holds (step s a) g
  raise s a q g l w d h (inl k) = inl (in_holds (child_code a q) a g (child_in a q d h) k)
  raise s a q g l w d h (inr k) =
      ⊎_elim
      (λ (e : OnEdge s q).
      let r = N.edge s a q l w d e in
      let i = child_in (step s a) r.digit (omega (arith, N.level s a l w)) (edge_four (back_no s) r.digit r.on) in
      inr (in_holds (child_code (step s a) r.digit) (step s a) g i (subst (λ (x : ℕ). Holds x g) r.is k)))
      (λ (e : OnEdge s q → ⊥).
      let r = N.within s a q l w d h e in
      inl (in_holds (child_code a r.digit) a g (child_in a r.digit d r.four) (subst (λ (x : ℕ). Holds x g) r.is k)))
      (edge_or s q)

  across_by : (n s a g : ℕ) → s < 3 → 26 ≤ depth a + n → CodeOn S a → Holds a g → Holds a (over step s g) ⊎ Holds (step s a) (over step s g)
  across_by zero s a g l h w k = inr (at_finest step s a g (omega (arith, w.deep)) k)
  across_by (suc n) s a g l h w k =
      ⊎_elim
      (λ (e : 26 ≤ depth a). inr (at_finest step s a g (omega (arith, w.deep)) k))
      (λ (d : depth a < 26).
      let p = in_child a g d k in
      let q = p.digit in
      raise s a q (over step s g) l w d p.four
      (across_by n s (child_code a q) g l (omega (arith, depth_child a q d)) (child_cell a q w d p.four) p.is))
      (le_or_lt 26 (depth a))

  pub across_or_in : (s a g : ℕ) → s < 3 → CodeOn S a → Holds a g → Holds a (over step s g) ⊎ Holds (step s a) (over step s g)
  across_or_in s a g l w k = across_by 26 s a g l (omega arith) w k

  finest_place : (s a : ℕ) → depth a ≡ 26 → SidePlace step s a
  finest_place s a d = record { at = place a; inside = holds_place a; across = at_finest step s a (place a) d (holds_place a) }

  side_by : (n s a : ℕ) → s < 3 → 26 ≤ depth a + n → CodeOn S a → SidePlace step s a
  side_by zero s a l h w = finest_place s a (omega (arith, w.deep))
  side_by (suc n) s a l h w =
      ⊎_elim
      (λ (e : 26 ≤ depth a). finest_place s a (omega (arith, w.deep)))
      (λ (d : depth a < 26).
      let q = first s in
      let four = edge_four s q (inl refl) in
      let p = side_by n s (child_code a q) l (omega (arith, depth_child a q d)) (child_cell a q w d four) in
      let r = N.edge s a q l w d (inl refl) in
      let i = child_in (step s a) r.digit (omega (arith, N.level s a l w)) (edge_four (back_no s) r.digit r.on) in
      let o = over step s p.at in
      record {
        at = p.at;
        inside = in_holds (child_code a q) a p.at (child_in a q d four) p.inside;
        across = in_holds (child_code (step s a) r.digit) (step s a) o i (subst (λ (x : ℕ). Holds x o) r.is p.across);
      })
      (le_or_lt 26 (depth a))

  pub side_place : (s a : ℕ) → s < 3 → CodeOn S a → SidePlace step s a
  side_place s a l w = side_by 26 s a l (omega arith) w

  pub step_apart : (s a : ℕ) → s < 3 → CodeOn S a → Apart (step s a) a
  step_apart s a l w =
      ⊎_elim
      (λ i. absurd (N.other s a l w (in_same (step s a) a i (N.level s a l w))))
      (λ h. h)
      (nested_or_apart (step s a) a (N.on s a l w) w (omega (arith, N.level s a l w)))

  -- what is met lies in the neighbour where it is met
  pub meets_step : (a s b : ℕ) → s < 3 → CodeOn S a → (m : Meets a s b) → Holds (step s a) m.beyond
  meets_step a s b l w m =
      let e = beyond_is a s b l w m in
      ⊎_elim
      (λ h. absurd (m.outside (subst (Holds a) (sym e) h)))
      (λ h. subst (Holds (step s a)) (sym e) h)
      (across_or_in s a m.finest l w m.inside)

  pub meets_in : (a s b : ℕ) → s < 3 → CodeOn S a → CodeOn S b → depth b ≤ depth a → Meets a s b → In (step s a) b
  meets_in a s b l wa wb d m =
      common (step s a) b m.beyond (N.on s a l wa) wb (omega (arith, N.level s a l wa)) (meets_step a s b l wa m) m.across

  pub in_meets : (a s b : ℕ) → s < 3 → CodeOn S a → Apart a b → In (step s a) b → Meets a s b
  in_meets a s b l w p i =
      let r = side_place s a l w in
      let h = in_holds (step s a) b (over step s r.at) i r.across in
      meets_by a s b r.at l w r.inside h (λ k. apart_holds a b (over step s r.at) p k h)

  pub meets_back : (a s b : ℕ) → s < 3 → CodeOn S a → Apart a b → Meets a s b → Meets b (back_no s) a
  meets_back a s b l w p m =
      let x = code_at m.finest 26 in
      let y = code_at m.beyond 26 in
      let wx = finest_on a m.finest w m.inside in
      let e : y ≡ step s x = step_is a s b l w m in
      let wy : CodeOn S y = subst (CodeOn S) (sym e) (N.on s x l wx) in
      let u : step (back_no s) y ≡ x = ap (step (back_no s)) e ∙ N.undo s x l wx in
      record {
        finest = m.beyond;
        beyond = m.finest;
        inside = m.across;
        across = m.inside;
        outside = λ h. apart_holds a b m.finest p m.inside h;
        code = on_solid_code S x wx;
        corners = subst (λ (z : ℕ). Neighbour (side_of (back_no s)) (cell_of y) (cell_of z)) u (N.corner (back_no s) y (back< s) wy);
      }
