-- What is asked of slots, and what is done to them; `xs` are the slots, and the first `n` of them are in use.
--
--   Less a b r                 == r is 1 where a is less than b, else 0
--   ZerosFrom xs n             == from n on every slot is zero
--   cleared_from xs n          == xs with zeros from n on
--   split_slot xs at n a b c d == the slot `at` becomes these four
--   join_at xs at n code       == the four slots from `at` on become this one
use Rattle.std.specs.Prelude.{◌≡◌, ℕ, ◌+◌, ◌-◌, ◌<◌, ◌≤◌, ◌⊎◌, List, ◌∷◌, ◌++◌, length, take, drop, replicate, slice_range}

abbrev pub Less : ℕ → ℕ → ℕ → Type 0
Less a b r = ((r ≡ 1) × (a < b)) ⊎ ((r ≡ 0) × (b ≤ a))

-- "then only zeros"
abbrev pub ZerosFrom : List ℕ → ℕ → Type 0
ZerosFrom xs n = drop n xs ≡ replicate (length xs - n) 0

abbrev pub cleared_from : List ℕ → ℕ → List ℕ
cleared_from xs n = take n xs ++ replicate (length xs - n) 0

-- "its four children stand in its place, later leaves move up three slots; slots past the new count are unchanged"
abbrev pub split_slot : List ℕ → ℕ → ℕ → ℕ → ℕ → ℕ → ℕ → List ℕ
split_slot xs at n a b c d = take at xs ++ (a ∷ b ∷ c ∷ d ∷ (slice_range xs (at + 1) n ++ drop (n + 3) xs))

-- "its four children become that one leaf, later leaves move down three, the freed slots become zero"
abbrev pub join_at : List ℕ → ℕ → ℕ → ℕ → List ℕ
join_at xs at n code = take at xs ++ (code ∷ (slice_range xs (at + 4) n ++ (0 ∷ 0 ∷ 0 ∷ drop n xs)))
