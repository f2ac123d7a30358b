use Rattle.std.proofs.Common.{◌+◌, ◌-◌, ◌*◌, length}
use Rattle.reading.proofs.reader.Reader.+pair_term.Given as goal

-- twice the unread text, since a pair calls a term where it stands
abbrev pub decreases-pair : goal.decreases-pair
decreases-pair l = 2 * (length l.self.now.text.now - l.self.now.at) + 1

abbrev pub decreases-term : goal.decreases-term
decreases-term l = 2 * (length l.self.now.text.now - l.self.now.at)
