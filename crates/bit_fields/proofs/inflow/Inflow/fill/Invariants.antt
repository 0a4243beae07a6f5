use Rattle.std.proofs.Common.{◌-◌, length}
use Rattle.bit_fields.specs.Inflow.{KeepsFlow}
use Rattle.bit_fields.proofs.inflow.Inflow.fill.Given as goal

abbrev pub invariant-loop-self : goal.invariant-loop-self
invariant-loop-self g l = KeepsFlow l.initial.self l.self

abbrev pub decreases-loop-self : goal.decreases-loop-self
decreases-loop-self g l = l.n - length l.self.window
