-- The sign of a wrapping difference tells which of two numbers is less, where neither is above 2 ^ 63.
use Rattle.std.proofs.Common.{◌≡◌, ℕ, zero, suc, ◌+◌, ◌/◌, ◌%◌, ◌^◌, ◌<◌, ◌≤◌, refl, inl, inr, arith}
use Rattle.slots.specs.Slots.{Less}

module _ (a b r : ℕ) (la : a < 2 ^ 63) (lb : b ≤ 2 ^ 63) (lr : r < 2 ^ 64) (e : (r + b) % 2 ^ 64 ≡ a) where
  by_sign : (q : ℕ) → r / 2 ^ 63 ≡ q → Less a b q
  by_sign zero s = inr (refl, omega arith)
  by_sign (suc zero) s = inl (refl, omega arith)
  by_sign (suc (suc q)) s = absurd (omega arith)

  pub less_told : Less a b (r / 2 ^ 63)
  less_told = by_sign (r / 2 ^ 63) refl
