-- Fields that fit their places do not meet: `|` is their sum.
use Rattle.codes.proofs.Words.{join_bits}
use Rattle.codes.proofs.Fields.join.Goals as goal

pub returns : goal.returns
returns c =
    let f = c.args.self in
    join_bits f.solid f.face f.path f.depth c.requires.solid c.requires.face c.requires.path c.requires.depth
