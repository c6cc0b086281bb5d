-- Whether some leaf is in a cell is told by one search.
use mathlib.Core.Bool.{Bool}
use mathlib.Core.List.{List}
use mathlib.Core.Logic.{inr, ⊎_elim}
use Prim.Native.Nat.{ℕ, ◌<◌, ◌≤◌}
use native.Mathlib.Omega.{arith}
use borrow.Author.Tests.{eqb-true, eqb-false}
use lib.Dec.{eqb}
use lib.ListN.{length, get_or}
use Rattle.refusals.specs.Answers.{Tells}
use Rattle.codes.specs.Places.{place}
use Rattle.soundness.specs.Regions.{InFaces}
use Rattle.soundness.specs.Inner.{Present, Below, Fine}
use Rattle.soundness.proofs.Leaves.{present_at, at_present}
use Rattle.balance.specs.Tiled.{TiledFor}
use Rattle.balance.proofs.Tiled.{tiled_covers}

module _ (Q : ℕ) (L : List ℕ) (c r : ℕ) (k : TiledFor Q L c) (here : InFaces Q (place c)) (B : Below L c r) where
  pub present_tells : r < length L → Tells (eqb (place (get_or L r 0)) (place c)) (Present L c)
  present_tells l =
      record {
        yes = λ e. present_at k.solid Q L (tiled_covers k) c r k.code B l (eqb-true _ _ e);
        no = λ e p. eqb-false _ _ e (at_present k.solid Q L (tiled_covers k) c r k.code B here p).1;
      }

  pub present_none : length L ≤ r → Present L c → ⊥
  present_none l p = omega (arith, (at_present k.solid Q L (tiled_covers k) c r k.code B here p).0)

pub fine_tells : (Q : ℕ) (L : List ℕ) (c : ℕ) {b : Bool} → InFaces Q (place c) → Tells b (Present L c) → Tells b (Fine Q L c)
fine_tells Q L c i t = record { yes = λ e. inr (t.yes e); no = λ e f. ⊎_elim (λ n. n i) (λ p. t.no e p) f }
