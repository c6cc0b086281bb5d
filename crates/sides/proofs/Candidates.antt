-- Of what one side of a leaf meets, the least leaf in the way.
use mathlib.Core.Bool.{Bool, true, false}
use mathlib.Core.List.{List}
use mathlib.Core.Logic.{⊎_elim}
use mathlib.Core.Path.{◌≡◌, sym, ap, subst}
use Prim.Native.Nat.{ℕ, ◌<◌}
use native.Mathlib.Omega.{arith}
use Rattle.std.proofs.Common.{Option}
use Rattle.codes.specs.Codes.{depth}
use Rattle.codes.specs.Places.{CodeOn}
use Rattle.soundness.specs.Sides.{MetIs}
use Rattle.soundness.specs.declared.Met.{Met}
use Rattle.soundness.specs.declared.Met.TheVariants.{Larger, Equal, Smaller, Open}
use Rattle.sides.specs.Sides.{Stands, candidate_of, Blocker}

pub code_pos : (S x : ℕ) → CodeOn S x → 0 < x
code_pos S x w = omega (arith, w.from, w.known.0)

module _ (L : List ℕ) (a s : ℕ) where
  same_depth : (x b : ℕ) → x ≡ b → depth x ≡ depth b
  same_depth x b e = ap depth e

  pub least_met : (small : Bool) (m : Met) → MetIs L a s m → Blocker (Stands L small a s) (candidate_of small m)
  least_met false (Larger b) h = record {
    is = record { leaf = h.0.leaf; meets = h.0.meets; level = omega arith };
    least = λ x p. omega (arith, h.0.no_other x p.leaf p.meets);
  }
  least_met false (Equal b) h = λ q. omega (arith, same_depth q.one b (h.0.no_other q.one q.is.leaf q.is.meets), q.is.level)
  least_met false (Smaller b c) h =
      λ q. ⊎_elim
      (λ e. omega (arith, same_depth q.one b e, h.deeper, q.is.level))
      (λ e. omega (arith, same_depth q.one c e, h.deeper', q.is.level))
      (h.no_other q.one q.is.leaf q.is.meets)
  least_met false Open h = λ q. h q.one q.is.leaf q.is.meets
  least_met true (Larger b) h = λ q. omega (arith, same_depth q.one b (h.0.no_other q.one q.is.leaf q.is.meets), q.is.level)
  least_met true (Equal b) h = λ q. omega (arith, same_depth q.one b (h.0.no_other q.one q.is.leaf q.is.meets), q.is.level)
  least_met true (Smaller b c) h = record {
    is = record { leaf = h.leaf; meets = h.meets; level = omega (arith, h.deeper) };
    least = λ x p. ⊎_elim (λ e. omega arith) (λ e. omega (arith, h.order)) (h.no_other x p.leaf p.meets);
  }
  least_met true Open h = λ q. h q.one q.is.leaf q.is.meets

  pub least_of_side : (small : Bool) (m : Met) (v : Option ℕ) → MetIs L a s m → v ≡ candidate_of small m → Blocker (Stands L small a s) v
  least_of_side small m v h e = subst (Blocker (Stands L small a s)) (sym e) (least_met small m h)
