-- What the calls on a mesh answer, for any slots and numbers. xs are the slots before the call; S is the number of a solid, Q
-- a set of its faces, all of them for a whole mesh.
--
--   Freshened S Q xs o        == o is the outcome of making the mesh anew
--   Refined Q xs c o          == o is the outcome of refining the leaf c
--   Coarsened Q xs c o        == o is the outcome of coarsening to the cell c
--   AcrossOf Q xs c s a       == a is the answer for what lies across side s of the leaf c
--   BoundsOf Q xs c p         == p is the answer for where the run under the cell c starts and how many leaves it has
--   RunOf Q xs c ys           == ys are the slots of the run under the cell c
--   CountOf Q xs c r          == r is the reply for the number of leaves in that run
--   kept xs k                 == the outcome of a refusal: its number, and the slots as they were
--   unless_blocked, BlockedBy == a change is stopped by the least leaf in its way, or goes on
--   refine_end, refine_leaf_end, coarsen_end, coarsen_leaves_end, across_end, bounds_end == what is asked from a point in the sequence on
--   Crossed xs c s a          == a are the parts of what side s of the leaf c meets
--   Bounded xs c p            == p is where the run under c starts and how many leaves it has, and the part of the slots holds them
--   come_before, start_of     == how many leaves come before the run; where it starts, 0 if it is empty
use Rattle.std.specs.Prelude.{List, [], ◌∷◌, ◌⊎◌, ◌≡◌, ℕ, ◌+◌, ◌<◌, ◌≤◌, length, take, drop, if◌then◌else◌, ◌==◌, nat_lt}
use Rattle.solids.specs.Solids.{Known}
use Rattle.refusals.specs.Refusals.{SOLID, DIRECTION, DEEP, BUFFER, NOT_LEAF, NOT_FOUR, ROOM, need}
use Rattle.refusals.specs.Answers.{Reply, done, refused}
use Rattle.codes.specs.Codes.{depth, code_faults}
use Rattle.codes.specs.Places.{child_code}
use Rattle.soundness.specs.Leaves.{Leaf, leaves, pad}
use Rattle.soundness.specs.Changes.{fresh_leaves, refined, coarsened, under}
use Rattle.soundness.specs.Sides.{MetIs, BlocksRefine, BlocksCoarsen, Some, LeastOf}
use Rattle.soundness.specs.declared.Met.{Met}
use Rattle.examine.specs.Examined.{mesh_faults}
use Rattle.mesh.specs.Answers.{Outcome, outcome, blocked, Crossing, crossing, not_crossed, Part, part, no_bounds}

-- "A refusal [..] writes nothing."
abbrev pub kept : List ℕ → ℕ → Outcome
kept xs k = outcome (refused k) xs

-- "the value is the least blocking leaf"
pub record BlockedBy (xs : List ℕ) (P : ℕ → Type 0) (o : Outcome) : Type 0 where
  pub leaf : ℕ
  pub least : LeastOf P leaf
  pub is : o ≡ outcome (blocked leaf) xs

abbrev pub unless_blocked : List ℕ → (ℕ → Type 0) → (Outcome → Type 0) → Outcome → Type 0
unless_blocked xs P rest o = BlockedBy xs P o ⊎ ((Some P → ⊥) × rest o)

-- "Fresh: 10, 1, 15": "all faces of a solid in order, zeros after"
abbrev pub Freshened : ℕ → ℕ → List ℕ → Outcome → Type 0
Freshened S Q xs =
    need (length xs ≤ 8192) (kept xs BUFFER)
    (need (Known S) (kept xs SOLID)
    (need (length (fresh_leaves S Q) ≤ length xs) (kept xs ROOM)
    (λ o. o ≡ outcome (done 0) (pad (length xs) (fresh_leaves S Q)))))

-- "Refine: 10, 11, 1 to 4, 12, 7, 14, 15"
abbrev pub refine_leaf_end : List ℕ → ℕ → Outcome → Type 0
refine_leaf_end xs c =
    need (depth c < 26) (kept xs DEEP)
    (unless_blocked xs (BlocksRefine (leaves xs) c)
    (need (length (leaves xs) + 3 ≤ length xs) (kept xs ROOM)
    (λ o. o ≡ outcome (done 0) (pad (length xs) (refined c (leaves xs))))))

abbrev pub refine_end : List ℕ → ℕ → Outcome → Type 0
refine_end xs c = need (Leaf (leaves xs) c) (kept xs NOT_LEAF) (refine_leaf_end xs c)

abbrev pub Refined : ℕ → List ℕ → ℕ → Outcome → Type 0
Refined Q xs c = mesh_faults (kept xs) Q xs (code_faults (kept xs) c (refine_end xs c))

-- "Coarsen: 10, 11, 1 to 4, 7, 13, 14"
abbrev pub coarsen_leaves_end : List ℕ → ℕ → Outcome → Type 0
coarsen_leaves_end xs c =
    unless_blocked xs (BlocksCoarsen (leaves xs) c)
    (λ o. o ≡ outcome (done 0) (pad (length xs) (coarsened c (leaves xs))))

abbrev pub coarsen_end : List ℕ → ℕ → Outcome → Type 0
coarsen_end xs c =
    need (depth c < 26) (kept xs DEEP)
    (need ((q : ℕ) → q < 4 → Leaf (leaves xs) (child_code c q)) (kept xs NOT_FOUR)
    (coarsen_leaves_end xs c))

abbrev pub Coarsened : ℕ → List ℕ → ℕ → Outcome → Type 0
Coarsened Q xs c = mesh_faults (kept xs) Q xs (code_faults (kept xs) c (coarsen_end xs c))

-- "Across: 10, 11, 1 to 4, 5, 12"
pub record Crossed (xs : List ℕ) (c s : ℕ) (a : Crossing) : Type 0 where
  pub met : Met
  pub side : MetIs (leaves xs) c s met
  pub is : a ≡ crossing met

abbrev pub across_end : List ℕ → ℕ → ℕ → Crossing → Type 0
across_end xs c s = need (s < 3) (not_crossed DIRECTION) (need (Leaf (leaves xs) c) (not_crossed NOT_LEAF) (Crossed xs c s))

abbrev pub AcrossOf : ℕ → List ℕ → ℕ → ℕ → Crossing → Type 0
AcrossOf Q xs c s = mesh_faults not_crossed Q xs (code_faults not_crossed c (across_end xs c s))

-- "Run: 10, 11, 1 to 4"; "the part of the lent slice holding the leaves equal to or inside that cell [..]. When the number is
-- 0, or anything is refused, the part is the empty one at the start": a run starts after the leaves that come before its cell
abbrev pub come_before : ℕ → List ℕ → ℕ
come_before c [] = 0
come_before c (x ∷ L) = if nat_lt x c then 1 + come_before c L else 0

abbrev pub start_of : ℕ → List ℕ → ℕ
start_of c L = if length (under c L) == 0 then 0 else come_before c L

pub record Bounded (xs : List ℕ) (c : ℕ) (p : Part) : Type 0 where
  pub is : p ≡ part (start_of c (leaves xs)) (length (under c (leaves xs)))
  pub holds : take p.count (drop p.start xs) ≡ under c (leaves xs)

abbrev pub bounds_end : List ℕ → ℕ → Part → Type 0
bounds_end = Bounded

abbrev pub BoundsOf : ℕ → List ℕ → ℕ → Part → Type 0
BoundsOf Q xs c = mesh_faults no_bounds Q xs (code_faults no_bounds c (bounds_end xs c))

abbrev pub none : ℕ → List ℕ
none k = []

abbrev pub RunOf : ℕ → List ℕ → ℕ → List ℕ → Type 0
RunOf Q xs c = mesh_faults none Q xs (code_faults none c (λ ys. ys ≡ under c (leaves xs)))

abbrev pub CountOf : ℕ → List ℕ → ℕ → Reply → Type 0
CountOf Q xs c = mesh_faults refused Q xs (code_faults refused c (λ r. r ≡ done (length (under c (leaves xs)))))
