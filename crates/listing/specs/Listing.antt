-- What `meshlist` prints for an input. Bytes and text are ASCII codes.
--
--   newline, space, R, C == the bytes of these names
--   solid_line d         == the line of the digit d
--   order_line l c       == the line of an order: the letter l, a space, the 16 hexadecimal digits of c
--   SolidFirst bs d      == the bytes begin with the solid line of d
--   OrderFirst bs l c    == the bytes begin with the order line of l and c
--   Done l xs c o        == o is the outcome of the order l and c on the mesh in the slots xs
--   unreadable           == the line `unreadable`
--   refused_word         == the word `refused` and a space
--   width k              == how many digits the number k has
--   answer k             == what a call with the number k prints
--   difference m         == the level difference of what a side meets, after a space
--   LeafLine L a t       == t is the line of the leaf a among the leaves L
--   LeafLines L A t      == t are the lines of the leaves A among the leaves L
--   bare                 == 8,192 slots with nothing in them
--   Goes xs bs t         == with the mesh in the slots xs, the bytes bs that are left print t
--   Prints bs t          == the input bs prints t
use Rattle.std.specs.Prelude.{List, [], ◌∷◌, ◌++◌, ◌⊎◌, ◌≢◌, ◌≡◌, ℕ, zero, suc, ◌+◌, ◌^◌, ◌<◌, ◌≤◌, length, drop, replicate, if◌then◌else◌, nat_lt}
use Rattle.text.specs.Text.{digits}
use Rattle.soundness.specs.Regions.{all_faces}
use Rattle.soundness.specs.Leaves.{leaves}
use Rattle.soundness.specs.Sides.{MetIs}
use Rattle.soundness.specs.declared.Met.{Met}
use Rattle.soundness.specs.declared.Met.TheVariants.{Larger, Equal, Smaller, Open}
use Rattle.examine.specs.Examined.{whole_of}
use Rattle.mesh.specs.Answers.{Outcome}
use Rattle.mesh.specs.Calls.{Freshened, Refined, Coarsened}

abbrev pub newline : ℕ
newline = 10

abbrev pub space : ℕ
space = 32

abbrev pub R : ℕ
R = 82

abbrev pub C : ℕ
C = 67

-- "the solid line is one decimal digit"
abbrev pub solid_line : ℕ → List ℕ
solid_line d = (48 + d) ∷ newline ∷ []

-- "`R` or `C`, a space and 16 lower-case hex digits. Each line ends in a newline"
abbrev pub order_line : ℕ → ℕ → List ℕ
order_line l c = l ∷ space ∷ (digits 16 16 c ++ (newline ∷ []))

pub record SolidFirst (bytes : List ℕ) (d : ℕ) : Type 0 where
  pub digit : d < 10
  pub is : bytes ≡ solid_line d ++ drop 2 bytes

pub record OrderFirst (bytes : List ℕ) (l c : ℕ) : Type 0 where
  pub letter : (l ≡ R) ⊎ (l ≡ C)
  pub code : c < 2 ^ 64
  pub is : bytes ≡ order_line l c ++ drop 19 bytes

-- `R` refines a leaf, `C` coarsens a cell
abbrev pub Done : ℕ → List ℕ → ℕ → Outcome → Type 0
Done l xs c o = ((l ≡ R) × Refined (whole_of xs) xs c o) ⊎ ((l ≡ C) × Coarsened (whole_of xs) xs c o)

-- u, n, r, e, a, d, a, b, l, e
abbrev pub unreadable : List ℕ
unreadable = 117 ∷ 110 ∷ 114 ∷ 101 ∷ 97 ∷ 100 ∷ 97 ∷ 98 ∷ 108 ∷ 101 ∷ newline ∷ []

-- r, e, f, u, s, e, d
abbrev pub refused_word : List ℕ
refused_word = 114 ∷ 101 ∷ 102 ∷ 117 ∷ 115 ∷ 101 ∷ 100 ∷ space ∷ []

-- no refusal's number has more than two digits
abbrev pub width : ℕ → ℕ
width k = if nat_lt k 10 then 1 else 2

-- "A refused line prints `refused`, a space and the number"
abbrev pub answer : ℕ → List ℕ
answer zero = []
answer (suc k) = refused_word ++ (digits 10 (width (suc k)) (suc k) ++ (newline ∷ []))

-- "the neighbouring leaf's level minus its own": 45 is the sign `-`, 48 and 49 are `0` and `1`; no side of a whole solid is open
abbrev pub difference : Met → List ℕ
difference (Larger b) = space ∷ 45 ∷ 49 ∷ []
difference (Equal b) = space ∷ 48 ∷ []
difference (Smaller b c) = space ∷ 49 ∷ []
difference Open = space ∷ 48 ∷ []

-- "each leaf is printed: code in hex, and the level differences for sides 0, 1, 2"
pub record LeafLine (L : List ℕ) (a : ℕ) (text : List ℕ) : Type 0 where
  pub met₀ : Met
  pub met₁ : Met
  pub met₂ : Met
  pub side₀ : MetIs L a 0 met₀
  pub side₁ : MetIs L a 1 met₁
  pub side₂ : MetIs L a 2 met₂
  pub is : text ≡ digits 16 16 a ++ (difference met₀ ++ (difference met₁ ++ (difference met₂ ++ (newline ∷ []))))

pub data LeafLines (L : List ℕ) : List ℕ → List ℕ → Type 0 where
  none : LeafLines L [] []
  next : {a : ℕ} {A s t : List ℕ} → LeafLine L a s → LeafLines L A t → LeafLines L (a ∷ A) (s ++ t)

-- "A line of another form [..] prints `unreadable` and ends the run without a list [..]. After the last line each leaf is
-- printed"
pub data Goes : List ℕ → List ℕ → List ℕ → Type 0 where
  order : {xs bytes t : List ℕ} {o : Outcome} (l c : ℕ) → OrderFirst bytes l c → Done l xs c o → Goes o.slots (drop 19 bytes) t →
      Goes xs bytes (answer o.reply.number ++ t)
  other : {xs bytes : List ℕ} → bytes ≢ [] → ((l c : ℕ) → OrderFirst bytes l c → ⊥) → Goes xs bytes unreadable
  lists : {xs bytes t : List ℕ} → bytes ≡ [] → LeafLines (leaves xs) (leaves xs) t → Goes xs bytes t

-- "on a slice of 8,192"
abbrev pub bare : List ℕ
bare = replicate 8192 0

-- "a refused solid line ends the run with nothing more. A line of another form, or no line at all, prints `unreadable` [..];
-- over 4,096 bytes of input prints only `unreadable`"
pub data Prints (bytes : List ℕ) : List ℕ → Type 0 where
  long : 4096 < length bytes → Prints bytes unreadable
  unread : length bytes ≤ 4096 → ((d : ℕ) → SolidFirst bytes d → ⊥) → Prints bytes unreadable
  no_mesh : {o : Outcome} (d : ℕ) → length bytes ≤ 4096 → SolidFirst bytes d → Freshened d (all_faces d) bare o →
      o.reply.number ≢ 0 → Prints bytes (answer o.reply.number)
  mesh : {o : Outcome} {t : List ℕ} (d : ℕ) → length bytes ≤ 4096 → SolidFirst bytes d → Freshened d (all_faces d) bare o →
      o.reply.number ≡ 0 → Goes o.slots (drop 2 bytes) t → Prints bytes t
