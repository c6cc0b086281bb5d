-- The next face is taken from the rows; the path is the one that the walk left, or the mirrored one.
use Rattle.std.proofs.Common.{◌≡◌, ℕ, ◌/◌, ◌^◌, cond, sym, ◌∙◌, subst, ap₂}
use Rattle.solids.specs.Triangles.{side_no}
use Rattle.solids.specs.Solids.{Solid, next_face, mirrored}
use Rattle.codes.specs.Codes.{solid, depth, joined, IsCode}
use Rattle.steps.specs.Stepped.{step_code}
use Rattle.steps.proofs.Stepped.{next_fits, step_code_is_formed}
use Rattle.steps.proofs.Words.{solid_told, over_chosen, go_over, mirrored_word}
use Rattle.steps.proofs.over_seam.Goals as goal
use Rattle.steps.proofs.over_seam.Goals.{Joined-is_mirrored, After-with_face, then-is_mirrored, else-is_mirrored}

chosen : (c : Joined-is_mirrored) → c.if-is_mirrored.path ≡ cond c.is_mirrored.result c.mirror-turned.result c.args.word
chosen c =
    elim c.if-is_mirrored.branch [
      | then-is_mirrored w ↦ rw w.if-is_mirrored.true w.path-is
      | else-is_mirrored w ↦ rw w.if-is_mirrored.false w.path-is
    ]

pub with_face-requires : goal.with_face-requires
with_face-requires c =
    let x : ℕ = c.args.code in
    let w = c.word_of.ensures in
    let turned = mirrored_word x c.args.side w.code c.word_of.result c.mirror-turned.result w.word c.mirror-turned.ensures in
    let so = solid_told c.solid-solid.result c.solid-solid.ensures in
    let there = c.next_face-next.ensures ∙ ap₂ (λ (t : Solid) (f : ℕ). next_face t c.args.side f) so c.face-face.ensures.face in
    record {
      face = rw there (next_fits x c.args.side w.code);
      new = rw (chosen (goal.at.with_face-requires c).Joined-is_mirrored) (over_chosen x c.args.side w.code c.is_mirrored.result c.requires turned);
    }

across : (c : After-with_face) → c.if-is_mirrored.path ≡ cond c.is_mirrored.result c.mirror-turned.result c.args.word → c.with_face.result ≡ step_code (side_no c.args.side) c.args.code
across c path =
    let x : ℕ = c.args.code in
    let so = solid_told c.solid-solid.result c.solid-solid.ensures in
    let there = c.next_face-next.ensures ∙ ap₂ (λ (t : Solid) (f : ℕ). next_face t c.args.side f) so c.face-face.ensures.face in
    let told = c.is_mirrored.ensures ∙ ap₂ (λ (t : Solid) (f : ℕ). mirrored t c.args.side f) so c.face-face.ensures.face in
    let w = c.word_of.ensures in
    let turned = mirrored_word x c.args.side w.code c.word_of.result c.mirror-turned.result w.word c.mirror-turned.ensures in
    c.with_face.ensures
    ∙ ap₂ (λ (f p : ℕ). joined (solid x) f (p / 2 ^ 12) (depth x)) there path
    ∙ go_over x c.args.side w.code c.is_mirrored.result c.requires told turned

pub new-requires : goal.new-requires
new-requires c =
    subst IsCode (sym (across (goal.at.new-requires c).After-with_face (chosen (goal.at.new-requires c).Joined-is_mirrored))) (step_code_is_formed c.args.code (side_no c.args.side) c.word_of.ensures.code)

pub returns : goal.returns
returns c = c.new.ensures ∙ across (goal.at.returns c).After-with_face (chosen (goal.at.returns c).Joined-is_mirrored)
