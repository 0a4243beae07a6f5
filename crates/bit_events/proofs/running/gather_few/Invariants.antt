use Rattle.std.proofs.Common.{◌≡◌, ◌-◌, length}
use Rattle.bit_fields.specs.PlacedView.{placed}
use Rattle.bit_events.specs.Runs.{GathersTo}
use Rattle.bit_events.proofs.running.gather_few.Given as goal

abbrev pub invariant-loop-definitions : goal.invariant-loop-definitions
invariant-loop-definitions g l = record {
  gathers : GathersTo g.G.Gatherer.gathered l.limits l.frame l.fn.used (placed l.fn.bits) l.fn.gatherer l.spent (placed l.bits) l.gatherer;
  room : l.room ≡ l.limits.values - l.spent;
}

abbrev pub decreases-loop-definitions : goal.decreases-loop-definitions
decreases-loop-definitions g l = length (placed l.bits).bits
