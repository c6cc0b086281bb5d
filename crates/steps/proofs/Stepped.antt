-- The step on codes has one answer, and the step of the cell gives it.
use Rattle.std.proofs.Common.{◌≡◌, ℕ, ◌<◌, ◌≤◌, Bool, true, false, List, map, sym, refl, ap, ◌∙◌, ap₂, inl, inr, arith}
use lib.ListN.{length-map}
use Rattle.solids.specs.Triangles.{Side, left, right, vertical, side_no, side_of}
use Rattle.solids.specs.Solids.{Solid, solid_of, next_face, mirrored}
use Rattle.solids.proofs.Numbers.{solid_no-solid_of, faces_few}
use Rattle.solids.proofs.Seams.{joined}
use Rattle.refusals.specs.Refusals.{DIRECTION, need, Single}
use Rattle.refusals.specs.Answers.{done, refused}
use Rattle.refusals.proofs.Refusals.{need_single, met}
use Rattle.geometry.specs.Corners.{Digit}
use Rattle.geometry.specs.Cells.{depth_of}
use Rattle.geometry.specs.Steps.{walked, crosses, mirror, way_of, way, moved, step}
use Rattle.geometry.specs.Neighbours.{Neighbour}
use Rattle.geometry.proofs.Across.{length-walked}
use Rattle.geometry.proofs.Neighbours.{neighbour, one_neighbour}
use Rattle.codes.specs.Codes as codes
use Rattle.codes.specs.Codes.{solid, face, depth, IsCode, path_bits, cell_of, code_of}
use Rattle.codes.proofs.Faults.{code_single, code_on, code_hand_on, code_passed}
use Rattle.codes.proofs.Codes.{code_formed, cell_of-code_of, cell_formed, depth_of-cell_of, cell_deep, one_code}
use Rattle.steps.specs.Stepped.{step_faults, Arrives, Stepped, step_code}

module _ (x s : ℕ) (c : IsCode x) where
  pub across : Neighbour (side_of s) (cell_of x) (step (side_of s) (cell_of x))
  across = neighbour (side_of s) (cell_of x) (cell_formed x c)

  deep : depth_of (step (side_of s) (cell_of x)) ≤ 26
  deep = rw across.depth (cell_deep x c)

  pub step_code_is_formed : IsCode (step_code s x)
  step_code_is_formed = code_formed (step (side_of s) (cell_of x)) across.well_formed deep

  pub cell_of-step_code : cell_of (step_code s x) ≡ step (side_of s) (cell_of x)
  cell_of-step_code = cell_of-code_of (step (side_of s) (cell_of x)) across.well_formed deep

  pub arrives : Arrives x s (done (step_code s x))
  arrives = record { number = refl; code = step_code_is_formed; across = rw cell_of-step_code across }

  -- a code that is a neighbour is the step's
  pub one_step : (y : ℕ) → IsCode y → Neighbour (side_of s) (cell_of x) (cell_of y) → y ≡ step_code s x
  one_step y k n = one_code y (step_code s x) k step_code_is_formed (one_neighbour (side_of s) (cell_of x) (cell_of y) (cell_formed x c) n ∙ sym cell_of-step_code)

  arrives_single : Single (Arrives x s)
  arrives_single a b p q =
      ap₂ (λ (m n : ℕ). record { number = m; value = n }) (p.number ∙ sym q.number)
      (one_step a.value p.code p.across ∙ sym (one_step b.value q.code q.across))

-- the sequence 1 to 5: how a call hands on the number of the check, how it goes on, and what the number 0 says

module _ {A : Type 0} (out : ℕ → A) (x s : ℕ) (rest : A → Type 0) where
  pub step_refused : {n : ℕ} → step_faults (λ k. k) x s (λ n. n ≡ 0) n → (n ≡ 0 → ⊥) → step_faults out x s rest (out n)
  step_refused {n} h z = code_hand_on out x (need (s < 3) (out DIRECTION) rest) (need (s < 3) DIRECTION (λ n. n ≡ 0)) h last
    where
      last : need (s < 3) DIRECTION (λ n. n ≡ 0) n → need (s < 3) (out DIRECTION) rest (out n)
      last (inl p) = inl (p.0, ap out p.1)
      last (inr p) = absurd (z p.1)

  pub step_on : {a : A} → IsCode x → s < 3 → rest a → step_faults out x s rest a
  step_on c h r = code_on out x (need (s < 3) (out DIRECTION) rest) c (inr (h, r))

  pub step_passed : {a : A} → ((k : ℕ) → 0 < k → a ≡ out k → ⊥) → step_faults out x s rest a → IsCode x × (s < 3) × rest a
  step_passed n h =
      let p = code_passed out x (need (s < 3) (out DIRECTION) rest) n h in
      let q = met (n DIRECTION (omega arith)) p.1 in
      (p.0, q.0, q.1)

pub step_formed : (x s : ℕ) {n : ℕ} → step_faults (λ k. k) x s (λ n. n ≡ 0) n → n ≡ 0 → IsCode x × (s < 3)
step_formed x s h z = let p = step_passed (λ k. k) x s (λ n. n ≡ 0) (λ k l e. omega arith) h in (p.0, p.1)

pub stepped_single : (x s : ℕ) → Single (Stepped x s)
stepped_single x s = code_single refused x (need (s < 3) (refused DIRECTION) (Arrives x s)) (λ c. need_single (λ h. arrives_single x s c))

-- directions by side

side_of-side_no : (s : Side) → side_of (side_no s) ≡ s
side_of-side_no left = refl
side_of-side_no right = refl
side_of-side_no vertical = refl

side_few : (s : Side) → side_no s < 3
side_few left = omega arith
side_few right = omega arith
side_few vertical = omega arith

-- what a call answers that was given a code and the number of a side
pub stepped : (x n y : ℕ) (s : Side) → IsCode x → side_no s ≡ n → y ≡ step_code (side_no s) x → Stepped x n (done y)
stepped x n y s c e i = rw (i, e) (step_on refused x n (Arrives x n) c (rw e at (side_few s)) (arrives x n c))

-- the step's code, by the way it goes
module _ (x : ℕ) (s : Side) (c : IsCode x) where
  abbrev ds : List Digit
  ds = (cell_of x).path

  abbrev so : Solid
  so = solid_of (solid x)

  by_way : (b m : Bool) → crosses s ds ≡ b → mirrored so s (face x) ≡ m → step_code (side_no s) x ≡ code_of (moved (way_of b m) s (cell_of x))
  unfolding step way cell_of
  by_way b m e f =
      ap (λ (v : Side). code_of (step v (cell_of x))) (side_of-side_no s) ∙ ap₂ (λ (u v : Bool). code_of (moved (way_of u v) s (cell_of x))) e f

  pub inside_code : crosses s ds ≡ false → step_code (side_no s) x ≡ codes.joined (solid x) (face x) (path_bits (walked s ds)) (depth x)
  unfolding code_of cell_of
  inside_code e =
      by_way false (mirrored so s (face x)) e refl
      ∙ rw (solid_no-solid_of (solid x) c.known, length-walked s ds, depth_of-cell_of x)

  pub straight_code : crosses s ds ≡ true → mirrored so s (face x) ≡ false →
      step_code (side_no s) x ≡ codes.joined (solid x) (next_face so s (face x)) (path_bits (walked s ds)) (depth x)
  unfolding code_of cell_of
  straight_code e f =
      by_way true false e f
      ∙ rw (solid_no-solid_of (solid x) c.known, length-walked s ds, depth_of-cell_of x)

  pub mirrored_code : crosses s ds ≡ true → mirrored so s (face x) ≡ true →
      step_code (side_no s) x ≡ codes.joined (solid x) (next_face so s (face x)) (path_bits (map mirror ds)) (depth x)
  unfolding code_of cell_of
  mirrored_code e f =
      by_way true true e f
      ∙ rw (solid_no-solid_of (solid x) c.known, length-map ds mirror, depth_of-cell_of x)

  -- the face across a seam fits its field
  pub next_fits : next_face so s (face x) < 32
  next_fits = omega (arith, (joined so (face x) c.on s).there, faces_few so)
