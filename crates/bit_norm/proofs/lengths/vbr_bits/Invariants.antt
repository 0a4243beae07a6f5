use Rattle.bit_norm.proofs.ChunkCounting.{Counting}
use Rattle.bit_norm.proofs.lengths.vbr_bits.Given as goal

abbrev pub invariant-loop-rest : goal.invariant-loop-rest
invariant-loop-rest l = Counting l.n l.value l.bits l.rest

abbrev pub decreases-loop-rest : goal.decreases-loop-rest
decreases-loop-rest l = l.rest
