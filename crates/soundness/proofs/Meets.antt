-- Sharing a stretch of a side, by intervals of places alone: a cell does not meet itself; what a part meets the whole meets,
-- and what the whole meets one of its children meets; the same for what is met.
--
--   meets_not_self              == no cell meets itself
--   meets_wider, meets_to_wider == from a part to the whole, of the cell that meets and of the one that is met
--   meets_child, meets_to_child == from the whole to a child
--
-- Assumes nothing.
use mathlib.Core.Path.{◌≡◌, subst}
use Prim.Native.Nat.{ℕ, ◌<◌}
use Rattle.codes.specs.Codes.{depth}
use Rattle.codes.specs.Places.{child_code}
use Rattle.soundness.specs.Leaves.{Holds, In, Apart}
use Rattle.soundness.specs.Soundness.{Meets}
use Rattle.soundness.proofs.Cells.{in_holds, apart_holds, child_in, DigitWith, in_child}

pub meets_not_self : (a s b : ℕ) → Meets a s b → b ≡ a → ⊥
meets_not_self a s b m e = m.outside (subst (λ (x : ℕ). Holds x m.beyond) e m.across)

pub meets_wider : (x a s y : ℕ) → In x a → Apart a y → Meets x s y → Meets a s y
meets_wider x a s y i p m = record {
  finest = m.finest;
  beyond = m.beyond;
  inside = in_holds x a m.finest i m.inside;
  across = m.across;
  outside = λ h. apart_holds a y m.beyond p h m.across;
  code = m.code;
  corners = m.corners;
}

pub meets_to_wider : (y s x a : ℕ) → In x a → Meets y s x → Meets y s a
meets_to_wider y s x a i m = record {
  finest = m.finest;
  beyond = m.beyond;
  inside = m.inside;
  across = in_holds x a m.beyond i m.across;
  outside = m.outside;
  code = m.code;
  corners = m.corners;
}

pub meets_child : (a s y : ℕ) → depth a < 26 → Meets a s y → DigitWith (λ (q : ℕ). Meets (child_code a q) s y)
meets_child a s y d m =
    let p = in_child a m.finest d m.inside in
    record {
      digit = p.digit;
      four = p.four;
      is = record {
        finest = m.finest;
        beyond = m.beyond;
        inside = p.is;
        across = m.across;
        outside = λ h. m.outside (in_holds (child_code a p.digit) a m.beyond (child_in a p.digit d p.four) h);
        code = m.code;
        corners = m.corners;
      };
    }

pub meets_to_child : (y s a : ℕ) → depth a < 26 → Meets y s a → DigitWith (λ (q : ℕ). Meets y s (child_code a q))
meets_to_child y s a d m =
    let p = in_child a m.beyond d m.across in
    record {
      digit = p.digit;
      four = p.four;
      is = record {
        finest = m.finest;
        beyond = m.beyond;
        inside = m.inside;
        across = p.is;
        outside = m.outside;
        code = m.code;
        corners = m.corners;
      };
    }
