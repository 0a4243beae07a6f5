use Rattle.std.proofs.Common.{length}
use Rattle.bit_grammar.specs.Bits.{bits_of_bytes}
use Rattle.bit_fields.proofs.Texts.{Going}
use Rattle.bit_fields.proofs.text.write_bytes.Given as goal

abbrev pub invariant-loop-rest : goal.invariant-loop-rest
invariant-loop-rest g l = Going (bits_of_bytes l.bytes) l.fn.writer l.writer (bits_of_bytes l.rest)

abbrev pub decreases-loop-rest : goal.decreases-loop-rest
decreases-loop-rest g l = length l.rest
