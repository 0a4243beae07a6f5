use Rattle.std.proofs.Common.{length}
use Rattle.bit_fields.specs.PlacedView.{placed}
use Rattle.bit_norm.proofs.Written.{FarWritten}
use Rattle.bit_norm.proofs.form_run.write_ops.Given as goal

abbrev pub invariant-loop-rest : goal.invariant-loop-rest
invariant-loop-rest l = FarWritten l.ops l.rest (placed l.fields) l.at l.fn.bytes l.pen (placed l.bits) l.bytes

abbrev pub decreases-loop-rest : goal.decreases-loop-rest
decreases-loop-rest l = length l.rest
