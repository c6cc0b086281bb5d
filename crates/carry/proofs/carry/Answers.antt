-- The masks are those of the direction, and then the words are those of the law on carries.
use Rattle.std.proofs.Common.{refl}
use Rattle.carry.proofs.Carries.{by_carries, right_mask, vertical_mask}
use Rattle.carry.proofs.carry.Goals as goal

pub returns : goal.returns
returns c =
    let s = c.args.side in
    let n = c.number-side.ensures in
    by_carries c.args.path c.tail.result _ _ _ s c.args.depth
    c.requires.depth c.ranges.path.fits c.requires.tail c.tail.ensures (right_mask s n) (vertical_mask s n) refl
