use Rattle.std.proofs.Common.{◌-◌, ◌^◌}
use Rattle.std.specs.Prelude.{⊤}
use Rattle.workloads.proofs.unit.tails_of.Given as goal

abbrev pub invariant-loop-tails : goal.invariant-loop-tails
invariant-loop-tails l = ⊤

abbrev pub decreases-loop-tails : goal.decreases-loop-tails
decreases-loop-tails l = 2 ^ 64 - l.events.position
