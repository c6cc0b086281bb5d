-- Inside the face the path is put back.
use Rattle.std.proofs.Common.{◌≡◌, sym, ◌∙◌, subst}
use Rattle.solids.specs.Triangles.{side_no}
use Rattle.codes.specs.Codes.{IsCode}
use Rattle.steps.specs.Stepped.{step_code}
use Rattle.steps.proofs.Stepped.{step_code_is_formed}
use Rattle.steps.proofs.Words.{over_told, over_tidy, go_inside}
use Rattle.steps.proofs.neighbour.Goals as goal
use Rattle.steps.proofs.neighbour.Goals.{After-with_path}

across : (c : After-with_path) → c.with_path.result ≡ step_code (side_no c.args.side) c.args.code
across c =
    let k = c.word_of.ensures.code in
    c.with_path.ensures ∙ go_inside c.args.code c.args.side k (over_told c.args.code c.args.side k.deep c.if-walked.false c.requires)

pub with_path-requires : goal.with_path-requires
with_path-requires c = record { old = c.word_of.ensures.word; new = over_tidy c.args.code c.args.side c.word_of.ensures.code.deep c.requires }

pub new-requires : goal.new-requires
new-requires c =
    subst IsCode (sym (across (goal.at.new-requires c).After-with_path)) (step_code_is_formed c.args.code (side_no c.args.side) c.word_of.ensures.code)

pub returns : goal.returns
returns c = c.new.ensures ∙ across (goal.at.returns c).After-with_path
