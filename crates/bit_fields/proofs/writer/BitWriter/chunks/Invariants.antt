use Rattle.bit_fields.proofs.WriterChunks.{Chunking}
use Rattle.bit_fields.proofs.writer.BitWriter.chunks.Given as goal

abbrev pub invariant-loop-rest : goal.invariant-loop-rest
invariant-loop-rest g l = Chunking l.n l.value l.initial.self l.self l.rest

abbrev pub decreases-loop-rest : goal.decreases-loop-rest
decreases-loop-rest g l = l.rest
