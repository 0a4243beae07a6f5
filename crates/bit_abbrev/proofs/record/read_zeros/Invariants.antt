use Rattle.bit_grammar.specs.Grammar.{gives}
use Rattle.bit_abbrev.specs.Values.{Gains}
use Rattle.bit_abbrev.proofs.Taking.{SoFar}
use Rattle.bit_abbrev.proofs.record.read_zeros.Given as goal

abbrev pub invariant-loop-done : goal.invariant-loop-done
invariant-loop-done g l = Gains g.V.ValueTaker.took l.fn.values l.values (SoFar (gives 0) l.count (g.B.Bits.as_reader l.fn.bits) l.done (g.B.Bits.as_reader l.bits))
