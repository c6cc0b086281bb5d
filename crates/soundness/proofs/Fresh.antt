-- Fresh meshes and sound slots: the faces of a set are the leaves of a mesh, a mesh padded with zeros is sound, and sound
-- slots have one solid and one set of faces.
--
--   fresh_tiling, fresh_mesh    == the fresh leaves are a tiling, and those of a mesh
--   all_of                      == the set of all faces of a solid, by its number
--   all_faces_in, all_faces_set == the set of all faces has every place of the solid, and is a set of faces
--   leaves_pad, length-pad      == the leaves of padded slots, and their length
--   leaves_le, head_leaf        == leaves stand in slots, the first one in the first
--   pad_sound, fresh_sound      == the leaves of a mesh, padded with zeros, are sound; so the fresh ones
--   sound_solid, sound_faces    == the solid of sound slots is that of the first, their faces are theirs alone
--
-- Assumes nothing.
use mathlib.Core.Bool.{Bool, true, false, cond}
use mathlib.Core.List.{List, [], ◌∷◌, ◌++◌}
use mathlib.Core.Logic.{inl, inr}
use mathlib.Core.Path.{◌≡◌, refl, sym, ◌∙◌, ap, subst}
use Prim.Native.Nat.{ℕ, zero, suc, ◌+◌, ◌-◌, ◌*◌, ◌/◌, ◌%◌, ◌^◌, ◌<◌, ◌≤◌}
use native.Mathlib.Nat.{mul-mod_left, div-div-eq-div-mul, pow-suc}
use native.Mathlib.Numerals.{add-one}
use native.Mathlib.Omega.{arith}
use lib.Dec.{eqb, eqb→eq}
use lib.ListN.{length, get_or, replicate, length-append, length-replicate}
use borrow.Author.Tests.{eqb-true, eqb-false, ne_eqb}
use Rattle.solids.specs.Solids.{Solid, tetrahedron, octahedron, icosahedron, Known, solid_no, solid_of, faces}
use Rattle.solids.proofs.Numbers.{faces_few, solid_of-solid_no}
use Rattle.solids.proofs.Tests.{below_at}
use Rattle.codes.specs.Codes.{solid, depth, size}
use Rattle.codes.specs.Places.{place, past, code_at, base, end, CodeOn}
use Rattle.codes.proofs.Places.{solid_is}
use Rattle.soundness.specs.Regions.{face_at, InFaces, all_faces, FaceSet}
use Rattle.soundness.specs.Leaves.{Leaf, leaves, pad}
use Rattle.soundness.specs.Soundness.{Covers, Mesh, Sound}
use Rattle.soundness.specs.Changes.{faces_from, fresh_leaves}
use Rattle.soundness.specs.Inner.{Tiles, Tiling}
use Rattle.soundness.proofs.Cells.{size_0, inq_in}
use Rattle.soundness.proofs.Tiles.{gap_refl, tiles_wider, tiling_covers}

-- a face and its bit

is_in : (Q g f : ℕ) → face_at g ≡ f → Q / 2 ^ f % 2 ≡ 1 → InFaces Q g
unfolding InFaces
is_in Q g f e h = ap (λ (n : ℕ). Q / 2 ^ n % 2) e ∙ h

is_bit : (Q g f : ℕ) → face_at g ≡ f → InFaces Q g → Q / 2 ^ f % 2 ≡ 1
unfolding InFaces
is_bit Q g f e h = ap (λ (n : ℕ). Q / 2 ^ n % 2) (sym e) ∙ h

all_faces_bit : (so : Solid) (f : ℕ) → f < faces so → (2 ^ faces so - 1) / 2 ^ f % 2 ≡ 1
all_faces_bit tetrahedron f h = eqb→eq _ 1 (below_at (λ k. eqb (15 / 2 ^ k % 2) 1) 4 tt f h)
all_faces_bit octahedron f h = eqb→eq _ 1 (below_at (λ k. eqb (255 / 2 ^ k % 2) 1) 8 tt f h)
all_faces_bit icosahedron f h = eqb→eq _ 1 (below_at (λ k. eqb (1048575 / 2 ^ k % 2) 1) 20 tt f h)

-- the set of all faces, by the solid itself
pub all_of : (so : Solid) → 2 ^ faces so - 1 ≡ all_faces (solid_no so)
unfolding all_faces
all_of so = ap (λ (t : Solid). 2 ^ faces t - 1) (sym (solid_of-solid_no so))

pub all_faces_in : (S g : ℕ) → base S ≤ g → g < end S → InFaces (all_faces S) g
unfolding all_faces
all_faces_in S g l k =
    let f : face_at g < faces (solid_of S) = omega (arith, faces_few (solid_of S)) in
    is_in (all_faces S) g (face_at g) refl (all_faces_bit (solid_of S) (face_at g) f)

pub all_faces_set : (S : ℕ) → FaceSet S (all_faces S)
unfolding all_faces
all_faces_set S = go (solid_of S)
  where
    go : (so : Solid) → (0 < 2 ^ faces so - 1) × (2 ^ faces so - 1 < 2 ^ faces so)
    go tetrahedron = (omega arith, omega arith)
    go octahedron = (omega arith, omega arith)
    go icosahedron = (omega arith, omega arith)

-- a face as a cell
abbrev face_code : ℕ → ℕ → ℕ
face_code S f = code_at (base S + f * 2 ^ 52) 0

face_past : (S f : ℕ) → past (face_code S f) ≡ base S + (f + 1) * 2 ^ 52
face_past S f =
    let d : depth (face_code S f) ≡ 0 = omega arith in
    let e : size (depth (face_code S f)) ≡ 2 ^ 52 = ap size d ∙ size_0 in
    omega arith

face_cell : (S f : ℕ) → Known S → f < faces (solid_of S) → CodeOn S (code_at (base S + f * 2 ^ 52) 0)
face_cell S f known h =
    let x = face_code S f in
    let d : depth x ≡ 0 = omega arith in
    let m : place x ≡ (S * 32 + f) * 2 ^ 52 = omega arith in
    record {
      known = known;
      from = omega arith;
      below = omega arith;
      deep = omega arith;
      tail = ap (λ (n : ℕ). place x % n) (ap size d ∙ size_0) ∙ ap (λ (n : ℕ). n % 2 ^ 52) m ∙ mul-mod_left (S * 32 + f) (2 ^ 52);
    }

-- fresh meshes

module _ (S Q : ℕ) where
  fresh_tiles : Known S → (k f a e : ℕ) → f + k ≤ faces (solid_of S) → a ≡ base S + f * 2 ^ 52 → e ≡ base S + (f + k) * 2 ^ 52 →
      Tiles S Q a e (faces_from S Q f k)
  fresh_tiles known zero f a e h p q = gap_refl Q a e (omega arith)
  fresh_tiles known (suc k) f a e h p q =
      head (eqb (Q / 2 ^ f % 2) 1) refl (fresh_tiles known k (f + 1) (base S + (f + 1) * 2 ^ 52) e (omega arith) refl (omega arith))
    where
      face_at_lem : (g : ℕ) → a ≤ g → g < base S + (f + 1) * 2 ^ 52 → face_at g ≡ f
      face_at_lem g l m = omega (arith, faces_few (solid_of S))

      head : (b : Bool) → eqb (Q / 2 ^ f % 2) 1 ≡ b → Tiles S Q (base S + (f + 1) * 2 ^ 52) e (faces_from S Q (f + 1) k) →
          Tiles S Q a e (cond b (face_code S f ∷ []) [] ++ faces_from S Q (f + 1) k)
      head true t u =
          let x = face_code S f in (
            record {
              gap = gap_refl Q a (place x) (omega arith);
              cell = face_cell S f known (omega arith);
              here = is_in Q (place x) f (face_at_lem (place x) (omega arith) (omega arith)) (eqb-true _ 1 t);
            },
            tiles_wider S Q (past x) (base S + (f + 1) * 2 ^ 52) e (faces_from S Q (f + 1) k) (gap_refl Q _ _ (face_past S f)) u,
          )
      head false t u =
          tiles_wider S Q a (base S + (f + 1) * 2 ^ 52) e (faces_from S Q (f + 1) k)
          (record { to = omega arith; none = λ g l m i. eqb-false _ 1 t (is_bit Q g f (face_at_lem g l m) i) }) u

  pub fresh_tiling : Known S → Tiling S Q (fresh_leaves S Q)
  fresh_tiling known = fresh_tiles known (faces (solid_of S)) 0 (base S) (end S) (omega arith) (omega arith) (omega arith)

  fresh_depth : (k f x : ℕ) → Leaf (faces_from S Q f k) x → depth x ≡ 0
  fresh_depth zero f x m = absurd m
  fresh_depth (suc k) f x m = head (eqb (Q / 2 ^ f % 2) 1) (fresh_depth k (f + 1) x) m
    where
      head : (b : Bool) → (Leaf (faces_from S Q (f + 1) k) x → depth x ≡ 0) →
          Leaf (cond b (face_code S f ∷ []) [] ++ faces_from S Q (f + 1) k) x → depth x ≡ 0
      head true r (inl e) = ap depth e ∙ omega arith
      head true r (inr m) = r m
      head false r m = r m

  -- some face is in the set
  fresh_some : (k f : ℕ) → 0 < Q / 2 ^ f → Q / 2 ^ f < 2 ^ k → 0 < length (faces_from S Q f k)
  fresh_some zero f z h = absurd (omega arith)
  fresh_some (suc k) f z h = head (eqb (Q / 2 ^ f % 2) 1) refl (fresh_some k (f + 1))
    where
      half : Q / 2 ^ (f + 1) ≡ Q / 2 ^ f / 2
      half = ap (λ (n : ℕ). Q / 2 ^ n) (add-one f) ∙ ap (λ (n : ℕ). Q / n) (pow-suc 2 f) ∙ sym (div-div-eq-div-mul Q (2 ^ f) 2)

      head : (b : Bool) → eqb (Q / 2 ^ f % 2) 1 ≡ b →
          (0 < Q / 2 ^ (f + 1) → Q / 2 ^ (f + 1) < 2 ^ k → 0 < length (faces_from S Q (f + 1) k)) →
          0 < length (cond b (face_code S f ∷ []) [] ++ faces_from S Q (f + 1) k)
      head true t r = omega arith
      head false t r =
          let odd : Q / 2 ^ f % 2 ≡ 1 → ⊥ = eqb-false _ 1 t in
          let p : 2 ^ suc k ≡ 2 ^ k * 2 = pow-suc 2 k in
          r (omega (arith, half)) (omega (arith, half))

  pub fresh_mesh : Known S → FaceSet S Q → Mesh S Q (fresh_leaves S Q)
  fresh_mesh known ok =
      let n = faces (solid_of S) in
      let one : Q / 2 ^ 0 ≡ Q = omega arith in
      record {
        some = fresh_some n 0 (omega (arith, ok.0)) (omega (arith, ok.1));
        covers = tiling_covers S Q (fresh_leaves S Q) (fresh_tiling known);
        level = λ a s b ma mb l m. (omega (arith, fresh_depth n 0 a ma), omega (arith, fresh_depth n 0 b mb));
      }

-- slots

pub cell_pos : {S : ℕ} (c : ℕ) → CodeOn S c → c ≡ 0 → ⊥
cell_pos c w e = omega (arith, w.known, w.from)

pub leaves_pad : (m : ℕ) (L : List ℕ) → ((x : ℕ) → Leaf L x → x ≡ 0 → ⊥) → leaves (L ++ replicate m 0) ≡ L
leaves_pad zero [] f = refl
leaves_pad (suc m) [] f = refl
leaves_pad m (x ∷ L) f =
    ap (λ (b : Bool). cond b [] (x ∷ leaves (L ++ replicate m 0))) (ne_eqb x 0 (f x (inl refl)))
    ∙ ap (λ (l : List ℕ). x ∷ l) (leaves_pad m L (λ y k. f y (inr k)))

pub length-pad : (n : ℕ) (L : List ℕ) → length L ≤ n → length (pad n L) ≡ n
length-pad n L h = omega (arith, length-append L (replicate (n - length L) 0), length-replicate {A = ℕ} (n - length L) 0)

pub leaves_le : (xs : List ℕ) → length (leaves xs) ≤ length xs
leaves_le [] = omega arith
leaves_le (x ∷ xs) = go (eqb x 0) (leaves_le xs)
  where
    go : (b : Bool) → length (leaves xs) ≤ length xs → length (cond b [] (x ∷ leaves xs)) ≤ length (x ∷ xs)
    go true h = omega arith
    go false h = omega arith

pub head_leaf : (xs : List ℕ) → 0 < length (leaves xs) → Leaf (leaves xs) (get_or xs 0 0)
head_leaf [] h = absurd (omega arith)
head_leaf (x ∷ xs) h = go (eqb x 0) h
  where
    go : (b : Bool) → 0 < length (cond b [] (x ∷ leaves xs)) → Leaf (cond b [] (x ∷ leaves xs)) x
    go true h = absurd (omega arith)
    go false h = inl refl

-- sound slots

pub pad_sound : (S Q n : ℕ) (L : List ℕ) → FaceSet S Q → n ≤ 8192 → length L ≤ n → Mesh S Q L → Sound S Q (pad n L)
pad_sound S Q n L ok short room m =
    let e : leaves (pad n L) ≡ L = leaves_pad (n - length L) L (λ x k. cell_pos x (m.covers.cells x k)) in
    let l : length (pad n L) ≡ n = length-pad n L room in
    record {
      region = ok;
      short = omega arith;
      form = ap (λ (k : ℕ). pad k L) (sym l) ∙ ap (λ (k : List ℕ). pad (length (pad n L)) k) (sym e);
      mesh = subst (λ (k : List ℕ). Mesh S Q k) (sym e) m;
    }

pub fresh_sound : (S Q n : ℕ) → Known S → FaceSet S Q → length (fresh_leaves S Q) ≤ n → n ≤ 8192 → Sound S Q (pad n (fresh_leaves S Q))
fresh_sound S Q n known ok room short = pad_sound S Q n (fresh_leaves S Q) ok short room (fresh_mesh S Q known ok)

pub sound_solid : (S Q : ℕ) (xs : List ℕ) → Sound S Q xs → solid (get_or xs 0 0) ≡ S
sound_solid S Q xs s = let m = s.mesh in solid_is S (get_or xs 0 0) (m.covers.cells (get_or xs 0 0) (head_leaf xs m.some))

same_faces : (S Q Q' : ℕ) (L : List ℕ) → Covers S Q L → Covers S Q' L → (g : ℕ) → base S ≤ g → g < end S → InFaces Q g → InFaces Q' g
same_faces S Q Q' L C D g l h i =
    let r = C.cover g l h i in
    inq_in Q' r.leaf g (C.cells r.leaf r.is) r.holds (D.only r.leaf r.is)

mesh_faces : (S Q Q' : ℕ) (L M : List ℕ) → Covers S Q L → Covers S Q' L → Mesh S Q' M → Mesh S Q M
mesh_faces S Q Q' L M C D m =
    record {
      some = m.some;
      level = m.level;
      covers = record {
        cells = m.covers.cells;
        ascend = m.covers.ascend;
        cover = λ g l h i. m.covers.cover g l h (same_faces S Q Q' L C D g l h i);
        only = λ x k. let w = m.covers.cells x k in same_faces S Q' Q L D C (place x) w.from w.below (m.covers.only x k);
      };
    }

pub sound_faces : (S Q Q' : ℕ) (xs ys : List ℕ) → Sound S Q xs → Sound S Q' xs → Sound S Q' ys → Sound S Q ys
sound_faces S Q Q' xs ys a b s =
    record {
      region = a.region;
      short = s.short;
      form = s.form;
      mesh = mesh_faces S Q Q' (leaves xs) (leaves ys) a.mesh.covers b.mesh.covers s.mesh;
    }
