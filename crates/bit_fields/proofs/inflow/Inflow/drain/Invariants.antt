use Rattle.bit_fields.specs.Inflow.{Draining, to_drain}
use Rattle.bit_fields.proofs.inflow.Inflow.drain.Given as goal

abbrev pub invariant-loop-self : goal.invariant-loop-self
invariant-loop-self g l = Draining l.initial.self l.self

abbrev pub decreases-loop-self : goal.decreases-loop-self
decreases-loop-self g l = to_drain l.self
