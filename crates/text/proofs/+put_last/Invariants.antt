-- Fewer digits are left.
use Rattle.text.proofs.+put_last.Given as goal

abbrev pub decreases-put_last : goal.decreases-put_last
decreases-put_last g l = l.count
