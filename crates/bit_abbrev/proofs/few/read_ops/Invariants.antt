use Rattle.bit_fields.specs.PlacedView.{placed}
use Rattle.bit_abbrev.proofs.FewValues.{FarRead}
use Rattle.bit_abbrev.proofs.few.read_ops.Given as goal

abbrev pub invariant-loop-at : goal.invariant-loop-at
invariant-loop-at l = FarRead l.ops l.at (placed l.fields) l.values (placed l.bits)
