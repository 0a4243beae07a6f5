use Rattle.std.proofs.Common.{length, drop}
use Rattle.bit_grammar.specs.Normal.{values_bits}
use Rattle.bit_fields.proofs.Pens.{Filling}
use Rattle.bit_fields.proofs.pen.put_numbers.Given as goal

abbrev pub invariant-loop-rest : goal.invariant-loop-rest
invariant-loop-rest l = Filling values_bits 78 64 l.at l.fn.bytes l.pen l.bytes l.values l.rest

abbrev pub decreases-loop-rest : goal.decreases-loop-rest
decreases-loop-rest l = length l.rest

abbrev pub invariant-loop-value : goal.invariant-loop-value
invariant-loop-value l = Filling values_bits 78 64 l.at l.fn.bytes l.pen l.bytes l.values (drop l.value-index l.value-items)
