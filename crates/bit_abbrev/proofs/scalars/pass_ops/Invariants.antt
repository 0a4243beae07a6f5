use Rattle.bit_fields.specs.PlacedView.{placed}
use Rattle.bit_abbrev.proofs.Singles.{FarPassed}
use Rattle.bit_abbrev.proofs.scalars.pass_ops.Given as goal

abbrev pub invariant-loop-op : goal.invariant-loop-op
invariant-loop-op l = FarPassed l.ops l.op-index (placed l.fields) (placed l.bits)
