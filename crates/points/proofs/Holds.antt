-- The cell that is reached holds the point, and no lesser cell of its face and depth does.
use mathlib.Core.List.{List, [], ◌∷◌}
use mathlib.Core.Path.{◌≡◌, refl, ap, sym, ◌∙◌, subst}
use Prim.Native.Nat.{ℕ, ◌+◌, ◌*◌, ◌^◌, ◌<◌, ◌≤◌}
use native.Mathlib.Nat.{mul-le-mul_right}
use native.Mathlib.Omega.{arith}
use lib.ListN.{length, get_or}
use Rattle.solids.specs.Triangles.{Corner, tip, lft, rgt}
use Rattle.solids.specs.Solids.{Solid, faces, vertex}
use Rattle.geometry.specs.Corners.{Digit, d00, d01, d10, d11, Triangle, child_corners, corners}
use Rattle.geometry.specs.Paths.{number}
use Rattle.geometry.specs.Cells.{cell, face_corners}
use Rattle.geometry.proofs.Corners.{one, two, child_weight}
use Rattle.geometry.proofs.Faces.{own_weight, no_weight}
use Rattle.codes.specs.Codes.{size, code_of}
use Rattle.points.specs.Points.{Weights, sum, down, path_to, weighed, point_of, Holds}
use Rattle.points.proofs.Lifting.{lift, lift_all, weights_eq}
use Rattle.points.proofs.Down.{up_again, length-path_to, least_path}

-- a child's corners taken by weights are its parent's taken by the lifted weights
module _ (P : Triangle) (v : ℕ) (w : Weights) where
  term : (d : Digit) (p : Corner) (n : ℕ) → n * get_or (child_corners d P p) v 0 ≡ n * (get_or (P (one d p)) v 0 + get_or (P (two d p)) v 0)
  term d p n = ap (λ (m : ℕ). n * m) (child_weight d P p v)

  lift_weighed : (d : Digit) → weighed w (child_corners d P) v ≡ weighed (lift d w) P v
  lift_weighed d00 = omega (arith, term d00 tip w.t, term d00 lft w.l, term d00 rgt w.r)
  lift_weighed d01 = omega (arith, term d01 tip w.t, term d01 lft w.l, term d01 rgt w.r)
  lift_weighed d10 = omega (arith, term d10 tip w.t, term d10 lft w.l, term d10 rgt w.r)
  lift_weighed d11 = omega (arith, term d11 tip w.t, term d11 lft w.l, term d11 rgt w.r)

lift_all_weighed : (P : Triangle) (v : ℕ) (ds : List Digit) (w : Weights) → weighed w (corners P ds) v ≡ weighed (lift_all ds w) P v
unfolding corners lift_all
lift_all_weighed P v [] w = refl
lift_all_weighed P v (d ∷ ds) w = lift_weighed (corners P ds) v w d ∙ lift_all_weighed P v ds (lift d w)

pub reached_holds : (so : Solid) (f d : ℕ) (w : Weights) → sum w ≡ 2 ^ 26 → d ≤ 26 → Holds (cell so f (path_to w d)) (point_of so f w)
reached_holds so f d w e h = record {
  by = down w d;
  same = λ v. lift_all_weighed (face_corners so f) v (path_to w d) (down w d) ∙ ap (λ (u : Weights). weighed u (face_corners so f) v) (up_again w e d h);
}

-- at the vertex of each corner a face weighs that corner's weight and nothing else, so a point has one triple of weights
module _ (so : Solid) (f : ℕ) (h : f < faces so) where
  at_tip : (w : Weights) → point_of so f w (vertex so f tip) ≡ w.t
  at_tip w = rw (own_weight so f h tip, no_weight so f h lft tip refl, no_weight so f h rgt tip refl) (omega arith)

  at_lft : (w : Weights) → point_of so f w (vertex so f lft) ≡ w.l
  at_lft w = rw (no_weight so f h tip lft refl, own_weight so f h lft, no_weight so f h rgt lft refl) (omega arith)

  at_rgt : (w : Weights) → point_of so f w (vertex so f rgt) ≡ w.r
  at_rgt w = rw (no_weight so f h tip rgt refl, no_weight so f h lft rgt refl, own_weight so f h rgt) (omega arith)

  lifted : (ds : List Digit) (w : Weights) → (k : Holds (cell so f ds) (point_of so f w)) → lift_all ds k.by ≡ w
  lifted ds w k =
      let u : Weights = lift_all ds k.by in
      let e : (v : ℕ) → point_of so f u v ≡ point_of so f w v = λ v. sym (lift_all_weighed (face_corners so f) v ds k.by) ∙ k.same v in
      weights_eq
      (sym (at_tip u) ∙ e (vertex so f tip) ∙ at_tip w)
      (sym (at_lft u) ∙ e (vertex so f lft) ∙ at_lft w)
      (sym (at_rgt u) ∙ e (vertex so f rgt) ∙ at_rgt w)

pub reached_least : (so : Solid) (f d : ℕ) (w : Weights) → f < faces so → sum w ≡ 2 ^ 26 → d ≤ 26 → (es : List Digit) → length es ≡ d →
    Holds (cell so f es) (point_of so f w) → code_of (cell so f (path_to w d)) ≤ code_of (cell so f es)
unfolding code_of
reached_least so f d w h e l es n k =
    let i : number (path_to w d) ≤ number es = subst (λ (m : ℕ). number (path_to w m) ≤ number es) n (least_path w e es (rw n l) k.by (lifted so f h es w k)) in
    rw (length-path_to w d, n) (omega (arith, mul-le-mul_right (size d) i))
