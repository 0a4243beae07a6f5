use Rattle.std.proofs.Common.{[], length}
use Rattle.bit_fields.specs.Writer.{Wrote}
use Rattle.bit_fields.proofs.writer.BitWriter.put_all.Given as goal

abbrev pub invariant-loop-self : goal.invariant-loop-self
invariant-loop-self g l = Wrote l.initial.self [] l.self

abbrev pub decreases-loop-self : goal.decreases-loop-self
decreases-loop-self g l = length l.self.held
