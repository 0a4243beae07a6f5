use Rattle.bit_fields.proofs.Padding.{Padding}
use Rattle.bit_fields.proofs.reader.BitReader.pad.Given as goal

abbrev pub invariant-loop-left : goal.invariant-loop-left
invariant-loop-left g l = Padding l.first l.initial.left l.initial.self l.self l.left

abbrev pub decreases-loop-left : goal.decreases-loop-left
decreases-loop-left g l = l.left
