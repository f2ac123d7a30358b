use Rattle.std.proofs.Common.{◌+◌, ◌*◌, length}
use Rattle.writing.proofs.term.+put_pair_put_term.Given as goal

abbrev pub decreases-put_pair : goal.decreases-put_pair
decreases-put_pair g l = 2 * length l.nodes.now + 1

abbrev pub decreases-put_term : goal.decreases-put_term
decreases-put_term g l = 2 * length l.nodes.now
