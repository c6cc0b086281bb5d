-- Lists of whole weights.
--
--   xs ⊕ ys  == their sum, place by place; the shorter list goes on with zeros
--   unit n v == n weights, 1 at place v and 0 elsewhere
--   δ v w    == what unit has at place w: 1 if v and w are equal, else 0
--   total xs == the sum of all weights of a list
use Rattle.std.specs.Prelude.{List, [], ◌∷◌, ℕ, zero, suc, ◌+◌, replicate}

infixl 65 ◌⊕◌
unfoldable pub ◌⊕◌ : List ℕ → List ℕ → List ℕ
[] ⊕ ys = ys
(x ∷ xs) ⊕ [] = x ∷ xs
(x ∷ xs) ⊕ (y ∷ ys) = (x + y) ∷ (xs ⊕ ys)

unfoldable pub unit : ℕ → ℕ → List ℕ
unit zero v = []
unit (suc n) zero = 1 ∷ replicate n 0
unit (suc n) (suc v) = 0 ∷ unit n v

unfoldable pub δ : ℕ → ℕ → ℕ
δ zero zero = 1
δ zero (suc w) = 0
δ (suc v) zero = 0
δ (suc v) (suc w) = δ v w

unfoldable pub total : List ℕ → ℕ
total [] = 0
total (x ∷ xs) = x + total xs
