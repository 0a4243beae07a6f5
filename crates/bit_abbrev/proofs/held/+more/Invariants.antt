use Rattle.std.proofs.Common.{length}
use Rattle.bit_abbrev.proofs.held.+more.Given as goal

abbrev pub decreases-more : goal.decreases-more
decreases-more l = length l.held.now
