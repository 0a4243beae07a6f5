use Rattle.bit_fields.proofs.WriterChunks.{Spelling}
use Rattle.bit_fields.proofs.text.BitText.vbr.Given as goal

abbrev pub invariant-loop-rest : goal.invariant-loop-rest
invariant-loop-rest l = Spelling l.n l.value l.fn.self l.self l.rest

abbrev pub decreases-loop-rest : goal.decreases-loop-rest
decreases-loop-rest l = l.rest
