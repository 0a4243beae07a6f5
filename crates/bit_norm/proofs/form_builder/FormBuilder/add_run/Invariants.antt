use Rattle.std.proofs.Common.{length}
use Rattle.bit_fields.specs.PlacedView.{placed}
use Rattle.bit_norm.proofs.BuiltRuns.{AddedSoFar}
use Rattle.bit_norm.proofs.form_builder.FormBuilder.add_run.Given as goal

abbrev pub invariant-loop-self : goal.invariant-loop-self
invariant-loop-self l = AddedSoFar l.width l.definitions l.fn.room (placed l.fn.bits) l.fn.self l.room (placed l.bits) l.self

abbrev pub decreases-loop-self : goal.decreases-loop-self
decreases-loop-self l = length (placed l.bits).bits
