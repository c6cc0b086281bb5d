-- The corners and the sides of a triangle.
--
--   Corner             == where a corner stands in its triangle: tip, lft, rgt, written T, L, R
--   Side               == a side, and the direction that leads over it: left, right, vertical
--   end₀ s, end₁ s     == the two ends of the side s
--   back s             == the direction that leads back
--   side_no s          == the number of the side s
--   side_of n          == the side that the number n names
--   corner_of n        == the corner that the number n names
--   DirectionTried n r == r is the side of number n, or refuses where no side has it
use Rattle.std.specs.Prelude.{◌≡◌, ℕ, zero, suc, ◌<◌, Result, MatchResult}
use Rattle.refusals.specs.declared.Refusal.{Refusal}
use Rattle.refusals.specs.declared.Refusal.TheVariants.{Direction}
use Rattle.solids.specs.declared.Corner.{Corner as CornerType}
use Rattle.solids.specs.declared.Corner.TheVariants.{Tip, Left as LeftCorner, Right as RightCorner}
use Rattle.solids.specs.declared.Side.{Side as SideType}
use Rattle.solids.specs.declared.Side.TheVariants.{Left, Right, Vertical}

abbrev pub Corner : Type 0
Corner = CornerType

pattern abbrev pub tip : Corner
tip = Tip

pattern abbrev pub lft : Corner
lft = LeftCorner

pattern abbrev pub rgt : Corner
rgt = RightCorner

abbrev pub Side : Type 0
Side = SideType

pattern abbrev pub left : Side
left = Left

pattern abbrev pub right : Side
right = Right

pattern abbrev pub vertical : Side
vertical = Vertical

-- "Side 0 (left) has the ends T and L; side 1 (right) T and R; side 2 (vertical) L and R."
abbrev pub end₀ : Side → Corner
end₀ left = tip
end₀ right = tip
end₀ vertical = lft

abbrev pub end₁ : Side → Corner
end₁ left = lft
end₁ right = rgt
end₁ vertical = rgt

-- "Left is the reverse of right", vertical pairs.
abbrev pub back : Side → Side
back left = right
back right = left
back vertical = vertical

abbrev pub side_no : Side → ℕ
side_no left = 0
side_no right = 1
side_no vertical = 2

abbrev pub side_of : ℕ → Side
side_of zero = left
side_of (suc zero) = right
side_of (suc (suc n)) = vertical

abbrev pub corner_of : ℕ → Corner
corner_of zero = tip
corner_of (suc zero) = lft
corner_of (suc (suc n)) = rgt

abbrev pub DirectionTried : ℕ → Result Side Refusal → Type 0
DirectionTried n r = MatchResult r (λ s. side_no s ≡ n) (λ e. (e ≡ Direction) × (n < 3 → ⊥))
