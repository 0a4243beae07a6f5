use Rattle.std.proofs.Common.{length}
use Rattle.bit_fields.specs.PlacedView.{placed}
use Rattle.bit_norm.proofs.WrittenRuns.{SoFar}
use Rattle.bit_norm.proofs.form_run.write_records.Given as goal

abbrev pub invariant-loop-pen : goal.invariant-loop-pen
invariant-loop-pen l = SoFar l.width l.definitions l.fn.most (placed l.fn.from) l.fn.first l.fn.bytes l.pen l.room (placed l.bits) l.bytes

abbrev pub decreases-loop-pen : goal.decreases-loop-pen
decreases-loop-pen l = length (placed l.bits).bits
