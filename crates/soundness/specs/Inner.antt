-- What code and proofs say of a list of leaves: tilings by what follows what, the leaves in a cell and around it, the level
-- test. `step` (direction, code) is the step on one solid.
--
--   Gap Q a b            == nothing of the faces Q lies from the place a on, below b
--   Next S Q a x         == x is a code on the faces Q, and nothing of them lies from a up to it
--   Tiles S Q a b L      == the leaves L follow each other from a to b, with nothing of the faces Q between
--   Tiling S Q L         == they do from the first place of the solid to the last
--   Present L c          == some leaf is c or inside c
--   Inner L c            == some leaf is strictly inside c
--   Around L c           == c is strictly inside some leaf
--   Where L c            == c is a leaf, or leaves are strictly inside it, or it is strictly inside a leaf
--   Below L key r        == the first r leaves are below the key, the others are not
--   Fine Q L n           == the cell n lies outside the faces Q, or some leaf is in it
--   Asked s a            == the level test asks for the side s at the leaf a, by its last two digits
--   Rows Q step L        == what the level test finds of the leaves
--   Passes step S Q xs n == what the linear pass, the zeros and the level test find of the first n slots
use Rattle.std.specs.Prelude.{List, [], ◌∷◌, ◌⊎◌, ◌≡◌, ℕ, ◌-◌, ◌<◌, ◌≤◌, length, take, drop, replicate, slice_index}
use Rattle.codes.specs.Codes.{depth}
use Rattle.codes.specs.Places.{place, past, base, end, CodeOn, parent_code, last_digit}
use Rattle.steps.specs.Edges.{first, OnEdge}
use Rattle.soundness.specs.Regions.{InFaces}
use Rattle.soundness.specs.Leaves.{Leaf, In}

pub record Gap (Q a b : ℕ) : Type 0 where
  pub to : a ≤ b
  pub none : (g : ℕ) → a ≤ g → g < b → InFaces Q g → ⊥

pub record Next (S Q a x : ℕ) : Type 0 where
  pub gap : Gap Q a (place x)
  pub cell : CodeOn S x
  pub here : InFaces Q (place x)

abbrev pub Tiles : ℕ → ℕ → ℕ → ℕ → List ℕ → Type 0
Tiles S Q a b [] = Gap Q a b
Tiles S Q a b (x ∷ L) = Next S Q a x × Tiles S Q (past x) b L

abbrev pub Tiling : ℕ → ℕ → List ℕ → Type 0
Tiling S Q L = Tiles S Q (base S) (end S) L

pub record Present (L : List ℕ) (c : ℕ) : Type 0 where
  pub leaf : ℕ
  pub is : Leaf L leaf
  pub inside : In leaf c

pub record Inner (L : List ℕ) (c : ℕ) : Type 0 where
  pub leaf : ℕ
  pub is : Leaf L leaf
  pub inside : In leaf c
  pub deeper : depth c < depth leaf

pub record Around (L : List ℕ) (c : ℕ) : Type 0 where
  pub leaf : ℕ
  pub is : Leaf L leaf
  pub around : In c leaf
  pub larger : depth leaf < depth c

pub data Where (L : List ℕ) (c : ℕ) : Type 0 where
  equal : Leaf L c → Where L c
  inner : Inner L c → Where L c
  outer : Around L c → Where L c

pub record Below (L : List ℕ) (key r : ℕ) : Type 0 where
  pub upto : r ≤ length L
  pub less : (i : ℕ) → i < r → slice_index L i < key
  pub rest : (i : ℕ) → r ≤ i → i < length L → key ≤ slice_index L i

abbrev pub Fine : ℕ → List ℕ → ℕ → Type 0
Fine Q L n = (InFaces Q (place n) → ⊥) ⊎ Present L n

pub record Asked (s a : ℕ) : Type 0 where
  pub low : s < 3
  pub two : 2 ≤ depth a
  pub digit : last_digit a ≡ first s
  pub above : OnEdge s (last_digit (parent_code a))

abbrev pub Rows : ℕ → (ℕ → ℕ → ℕ) → List ℕ → Type 0
Rows Q step L = (s a : ℕ) → Leaf L a → Asked s a → Fine Q L (step s (parent_code a))

pub record Passes (step : ℕ → ℕ → ℕ) (S Q : ℕ) (xs : List ℕ) (n : ℕ) : Type 0 where
  pub some : 0 < n
  pub upto : n ≤ length xs
  pub tiling : Tiling S Q (take n xs)
  pub zeros : drop n xs ≡ replicate (length xs - n) 0
  pub rows : Rows Q step (take n xs)
