-- The step on codes has the laws that a mesh asks of it, on every solid. Each is the cell's law between the code of the cell
-- and the cell of the code.
use Rattle.std.proofs.Common.{◌≡◌, ℕ, zero, suc, ◌<◌, ◌≤◌, Bool, true, false, sym, refl, ap, ◌∙◌, subst, ap₂, inl, inr, true≢false, arith}
use Rattle.solids.specs.Triangles.{Side, back, side_of}
use Rattle.solids.specs.Solids.{solid_no, solid_of}
use Rattle.solids.proofs.Numbers.{solid_no-solid_of}
use Rattle.refusals.specs.Answers.{done, refused}
use Rattle.refusals.proofs.Answers.{done_differs}
use Rattle.geometry.specs.Corners.{Digit}
use Rattle.geometry.specs.Paths.{digit_no, digit_of}
use Rattle.geometry.specs.Cells.{Cell, depth_of, parent, child}
use Rattle.geometry.specs.Steps.{stops, replaced, flips, way, step}
use Rattle.geometry.proofs.Paths.{digit<4, digit_of-digit_no, digit_no-digit_of}
use Rattle.geometry.proofs.Undo.{undo}
use Rattle.geometry.specs.Parts.{Part}
use Rattle.geometry.proofs.Parents.{parent_across}
use Rattle.geometry.proofs.Children.{new_digit, stops_back, child_stops, child_climbs}
use Rattle.codes.specs.Codes.{solid, depth, IsCode, cell_of, code_of}
use Rattle.codes.specs.Places.{CodeOn, child_code}
use Rattle.codes.specs.Calls.{parent_end, ParentOf}
use Rattle.codes.proofs.Faults.{code_on}
use Rattle.codes.proofs.Codes.{cell_of-code_of, code_of-cell_of, cell_formed, depth_of-cell_of, cell_deep}
use Rattle.codes.proofs.Family.{born}
use Rattle.codes.proofs.Calls.{parent_done}
use Rattle.codes.proofs.Places.{code_on_solid, solid_is, on_solid_code, child_place, child_cell}
use Rattle.steps.specs.Stepped.{Arrives, Stepped, step_code}
use Rattle.steps.specs.Edges.{back_no, first, second, OnEdge, SomeDigit, EdgeDigit, StepLaws}
use Rattle.steps.proofs.Stepped.{across, step_code_is_formed, cell_of-step_code, arrives, one_step, step_on, step_passed}

side_back : (s : ℕ) → side_of (back_no s) ≡ back (side_of s)
side_back zero = refl
side_back (suc zero) = refl
side_back (suc (suc n)) = refl

pub back< : (s : ℕ) → back_no s < 3
back< zero = omega arith
back< (suc zero) = omega arith
back< (suc (suc n)) = omega arith

-- the digits on a side are those at which the walk climbs

edge_climbs : (s q : ℕ) → s < 3 → OnEdge s q → (q < 4) × (stops (side_of s) (digit_of q) ≡ false)
unfolding first second stops
edge_climbs zero q h (inl e) = rw e (omega arith, refl)
edge_climbs zero q h (inr e) = rw e (omega arith, refl)
edge_climbs (suc zero) q h (inl e) = rw e (omega arith, refl)
edge_climbs (suc zero) q h (inr e) = rw e (omega arith, refl)
edge_climbs (suc (suc zero)) q h (inl e) = rw e (omega arith, refl)
edge_climbs (suc (suc zero)) q h (inr e) = rw e (omega arith, refl)
edge_climbs (suc (suc (suc n))) q h e = absurd (omega arith)

climbs_edge : (s q : ℕ) → s < 3 → q < 4 → stops (side_of s) (digit_of q) ≡ false → OnEdge s q
unfolding first second stops
climbs_edge zero zero h l e = inl refl
climbs_edge zero (suc zero) h l e = inr refl
climbs_edge zero (suc (suc zero)) h l e = absurd (true≢false e)
climbs_edge zero (suc (suc (suc zero))) h l e = absurd (true≢false e)
climbs_edge (suc zero) zero h l e = inl refl
climbs_edge (suc zero) (suc zero) h l e = absurd (true≢false e)
climbs_edge (suc zero) (suc (suc zero)) h l e = absurd (true≢false e)
climbs_edge (suc zero) (suc (suc (suc zero))) h l e = inr refl
climbs_edge (suc (suc zero)) zero h l e = absurd (true≢false e)
climbs_edge (suc (suc zero)) (suc zero) h l e = inl refl
climbs_edge (suc (suc zero)) (suc (suc zero)) h l e = absurd (true≢false e)
climbs_edge (suc (suc zero)) (suc (suc (suc zero))) h l e = inr refl
climbs_edge (suc (suc (suc n))) q h l e = absurd (omega arith)
climbs_edge zero (suc (suc (suc (suc q)))) h l e = absurd (omega arith)
climbs_edge (suc zero) (suc (suc (suc (suc q)))) h l e = absurd (omega arith)
climbs_edge (suc (suc zero)) (suc (suc (suc (suc q)))) h l e = absurd (omega arith)

off_edge_stops : (s q : ℕ) → s < 3 → q < 4 → (OnEdge s q → ⊥) → stops (side_of s) (digit_of q) ≡ true
off_edge_stops s q h l n = go (stops (side_of s) (digit_of q)) refl
  where
    go : (b : Bool) → stops (side_of s) (digit_of q) ≡ b → b ≡ true
    go true e = refl
    go false e = absurd (n (climbs_edge s q h l e))

-- the laws on codes

module _ (x s : ℕ) (c : IsCode x) where
  pub step_depth : depth (step_code s x) ≡ depth x
  step_depth = sym (depth_of-cell_of (step_code s x)) ∙ ap depth_of (cell_of-step_code x s c) ∙ (across x s c).depth ∙ depth_of-cell_of x

  step_solid : solid (step_code s x) ≡ solid x
  unfolding cell_of
  step_solid =
      let e : solid_of (solid (step_code s x)) ≡ solid_of (solid x) = ap (λ (k : Cell). k.solid) (cell_of-step_code x s c) ∙ (across x s c).solid in
      sym (solid_no-solid_of (solid (step_code s x)) (step_code_is_formed x s c).known) ∙ ap solid_no e ∙ solid_no-solid_of (solid x) c.known

  pub step_back : step_code (back_no s) (step_code s x) ≡ x
  step_back =
      ap₂ (λ (v : Side) (k : Cell). code_of (step v k)) (side_back s) (cell_of-step_code x s c)
      ∙ ap code_of (undo (side_of s) (cell_of x) (cell_formed x c)) ∙ code_of-cell_of x c

  module _ (h : depth x < 26) where
    child_within : (d : Digit) → stops (side_of s) d ≡ true → step_code s (child_code x (digit_no d)) ≡ child_code x (digit_no (replaced (side_of s) d))
    child_within d e =
        ap (λ (k : Cell). code_of (step (side_of s) k)) (child_cell x d c h)
        ∙ ap code_of (child_stops (side_of s) (cell_of x) d e) ∙ child_place x (replaced (side_of s) d) c h

    child_over : (d : Digit) → stops (side_of s) d ≡ false →
        step_code s (child_code x (digit_no d)) ≡ child_code (step_code s x) (digit_no (new_digit (flips (way (side_of s) (cell_of x))) (side_of s) d))
    child_over d e =
        let n = new_digit (flips (way (side_of s) (cell_of x))) (side_of s) d in
        ap (λ (k : Cell). code_of (step (side_of s) k)) (child_cell x d c h)
        ∙ ap code_of (child_climbs (side_of s) (cell_of x) d e)
        ∙ ap (λ (k : Cell). code_of (child k n)) (sym (cell_of-step_code x s c)) ∙ child_place (step_code s x) n (step_code_is_formed x s c) (rw step_depth h)

    step_within : (q : ℕ) → s < 3 → q < 4 → (OnEdge s q → ⊥) → SomeDigit x (step_code s (child_code x q))
    step_within q l k n = record {
      digit = digit_no (replaced (side_of s) (digit_of q));
      four = digit<4 (replaced (side_of s) (digit_of q));
      is = ap (λ (m : ℕ). step_code s (child_code x m)) (sym (digit_no-digit_of q k)) ∙ child_within (digit_of q) (off_edge_stops s q l k n);
    }

    step_edge : (q : ℕ) → s < 3 → OnEdge s q → EdgeDigit (back_no s) (step_code s x) (step_code s (child_code x q))
    step_edge q l o =
        let k = edge_climbs s q l o in
        let n = new_digit (flips (way (side_of s) (cell_of x))) (side_of s) (digit_of q) in
        let b : stops (side_of (back_no s)) (digit_of (digit_no n)) ≡ false = rw (side_back s, digit_of-digit_no n) (stops_back (flips (way (side_of s) (cell_of x))) (side_of s) (digit_of q) ∙ k.1) in
        record {
          digit = digit_no n;
          on = climbs_edge (back_no s) (digit_no n) (back< s) (digit<4 n) b;
          is = ap (λ (m : ℕ). step_code s (child_code x m)) (sym (digit_no-digit_of q k.0)) ∙ child_over (digit_of q) k.1;
        }

pub step_laws : (S : ℕ) → StepLaws S step_code
step_laws S = record {
  on = λ s x l h.
      let c = on_solid_code S x h in
      subst (λ (n : ℕ). CodeOn n (step_code s x)) (step_solid x s c ∙ solid_is S x h) (code_on_solid (step_code s x) (step_code_is_formed x s c));
  level = λ s x l h. step_depth x s (on_solid_code S x h);
  other = λ s x l h e.
      let c = on_solid_code S x h in
      (across x s c).other (sym (cell_of-step_code x s c) ∙ ap cell_of e);
  undo = λ s x l h. step_back x s (on_solid_code S x h);
  within = λ s x q l h d k n. step_within x s (on_solid_code S x h) d q l k n;
  edge = λ s x q l h d o. step_edge x s (on_solid_code S x h) d q l o;
  corner = λ s x l h.
      let c = on_solid_code S x h in
      rw (cell_of-step_code x s c) (across x s c);
  only = λ s x y l h k n. one_step x s (on_solid_code S x h) y (on_solid_code S y k) n;
}

-- a step that is done

record Done (x s y : ℕ) : Type 0 where
  code : IsCode x
  side : s < 3
  is : y ≡ step_code s x

step_done : (x s y : ℕ) → Stepped x s (done y) → Done x s y
step_done x s y h =
    let a = step_passed refused x s (Arrives x s) (done_differs y) h in
    record { code = a.0; side = a.1; is = one_step x s a.0 y a.2.code a.2.across }

pub undo_stepped : (x s y : ℕ) → Stepped x s (done y) → Stepped y (back_no s) (done x)
undo_stepped x s y h =
    let d = step_done x s y h in
    let c = step_code_is_formed x s d.code in
    rw d.is
    (step_on refused (step_code s x) (back_no s) (Arrives (step_code s x) (back_no s)) c (back< s)
    (subst (λ (n : ℕ). Arrives (step_code s x) (back_no s) (done n)) (step_back x s d.code) (arrives (step_code s x) (back_no s) c)))

-- the parent of a cell that has one
module _ (x : ℕ) (c : IsCode x) (h : 0 < depth x) where
  parent_deep : depth_of (parent (cell_of x)) ≤ 26
  parent_deep =
      let b = born (cell_of x) (rw (depth_of-cell_of x) h) in
      let n : depth_of (cell_of x) ≡ suc (depth_of (parent (cell_of x))) = ap depth_of b.is in
      omega (arith, cell_deep x c)

  parent_cell : cell_of (code_of (parent (cell_of x))) ≡ parent (cell_of x)
  parent_cell = cell_of-code_of (parent (cell_of x)) (cell_formed x c) parent_deep

pub parent_along : (x s p y z : ℕ) → Part (side_of s) (cell_of x) → ParentOf x (done p) → Stepped x s (done y) → Stepped p s (done z) → ParentOf y (done z)
parent_along x s p y z part hp hy hz =
    let u = parent_done x p hp in
    let v = step_done x s y hy in
    let w = step_done p s z hz in
    let c = step_code_is_formed x s u.code in
    let e : cell_of p ≡ parent (cell_of x) = ap cell_of u.is ∙ parent_cell x u.code u.below in
    let f : code_of (parent (cell_of (step_code s x))) ≡ z =
    ap (λ (k : Cell). code_of (parent k)) (cell_of-step_code x s u.code) ∙ ap code_of (parent_across (side_of s) (cell_of x) (cell_formed x u.code) part)
    ∙ sym (w.is ∙ ap (λ (k : Cell). code_of (step (side_of s) k)) e) in
    rw v.is (code_on refused (step_code s x) (parent_end (step_code s x)) c (inr (rw (step_depth x s u.code) u.below, ap done (sym f))))
