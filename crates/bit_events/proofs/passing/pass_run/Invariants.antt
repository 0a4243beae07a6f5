use Rattle.std.proofs.Common.{List, length}
use Rattle.bit_grammar.specs.declared.op.Op.{Op}
use Rattle.bit_fields.specs.PlacedView.{placed}
use Rattle.bit_events.specs.Passing.{PassesOn}
use Rattle.bit_events.proofs.passing.pass_run.Given as goal

abbrev pub invariant-loop-by : goal.invariant-loop-by
invariant-loop-by g l = (definitions : List (List Op)) → g.P.PassOne.knows l.fn.by definitions → PassesOn g.C.RunCounter.counted l.width definitions l.fn.counter l.fn.room (placed l.fn.bits) l.counter l.room (placed l.bits)

abbrev pub decreases-loop-by : goal.decreases-loop-by
decreases-loop-by g l = length (placed l.bits).bits
