use Rattle.std.proofs.Common.{◌-◌, ◌^◌}
use Rattle.std.specs.Prelude.{⊤}
use Rattle.workloads.proofs.jobs.Worker.walk.Given as goal

abbrev pub invariant-loop-events : goal.invariant-loop-events
invariant-loop-events l = ⊤

abbrev pub decreases-loop-events : goal.decreases-loop-events
decreases-loop-events l = 2 ^ 64 - l.events.position
