use Rattle.std.proofs.Common.{◌-◌}
use Rattle.bit_norm.proofs.again.Widths.number.Given as goal

abbrev pub decreases-loop-place : goal.decreases-loop-place
decreases-loop-place l = 64 - l.place
