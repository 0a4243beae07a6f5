use Rattle.bit_fields.proofs.WriterChunks.{Collecting}
use Rattle.bit_fields.proofs.writer.chunks_of.Given as goal

abbrev pub invariant-loop-left : goal.invariant-loop-left
invariant-loop-left l = Collecting l.n l.value l.chunks l.left

abbrev pub decreases-loop-left : goal.decreases-loop-left
decreases-loop-left l = l.left
