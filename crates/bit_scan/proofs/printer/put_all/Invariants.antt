use Rattle.std.proofs.Common.{length}
use Rattle.bit_scan.proofs.Puts.{PutSoFar}
use Rattle.bit_scan.proofs.printer.put_all.Given as goal

abbrev pub invariant-loop-rest : goal.invariant-loop-rest
invariant-loop-rest g l = PutSoFar l.fn.bytes (g.K.Sink.outgoing l.initial.sink) l.rest (g.K.Sink.outgoing l.sink)

abbrev pub decreases-loop-rest : goal.decreases-loop-rest
decreases-loop-rest g l = length l.rest
