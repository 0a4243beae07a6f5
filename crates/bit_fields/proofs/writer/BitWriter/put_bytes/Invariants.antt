use Rattle.std.proofs.Common.{◌≡◌, true, [], length}
use Rattle.bit_grammar.specs.Bits.{bits_of_bytes}
use Rattle.bit_fields.specs.Writer.{Wrote, writer_holding}
use Rattle.bit_fields.proofs.writer.BitWriter.put_bytes.Given as goal

abbrev pub invariant-loop-rest : goal.invariant-loop-rest
invariant-loop-rest g l = record {
  live : l.self.live ≡ true;
  none : l.self.held ≡ [];
  wrote : Wrote l.fn.self (bits_of_bytes l.bytes) (writer_holding l.self l.rest);
}

abbrev pub decreases-loop-rest : goal.decreases-loop-rest
decreases-loop-rest g l = length l.rest
