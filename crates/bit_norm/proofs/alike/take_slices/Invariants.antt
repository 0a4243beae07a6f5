use Rattle.std.proofs.Common.{length, ◌-◌}
use Rattle.bit_norm.specs.Rejoined.{TakesMore}
use Rattle.bit_norm.proofs.alike.take_slices.Given as goal

abbrev pub invariant-loop-slices : goal.invariant-loop-slices
invariant-loop-slices g l = TakesMore l.first 0 l.fn.slices (g.S.Source.incoming l.fn.source) l.slices (g.S.Source.incoming l.source)

abbrev pub decreases-loop-slices : goal.decreases-loop-slices
decreases-loop-slices g l = length l.first - l.slices.bytes
