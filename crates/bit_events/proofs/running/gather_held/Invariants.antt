use Rattle.std.proofs.Common.{◌≡◌, ◌-◌, ◌<◌, ◌^◌, false}
use Rattle.bit_events.specs.MachineView.{TookSome}
use Rattle.bit_events.specs.Runs.{GathersTo}
use Rattle.bit_events.proofs.running.gather_held.Given as goal

abbrev pub invariant-loop-id : goal.invariant-loop-id
invariant-loop-id g l = record {
  gathers : GathersTo g.G.Gatherer.gathered l.limits l.frame l.fn.used l.fn.buffered l.fn.gatherer l.spent l.buffered l.gatherer;
  room : l.room ≡ l.limits.values - l.spent;
  first : l.first ≡ l.buffered.position;
  took : TookSome g.G.Values.ValueTaker.took l.values;
  moved : l.is_over ≡ false → l.fn.buffered.position < l.first;
}

abbrev pub decreases-loop-id : goal.decreases-loop-id
decreases-loop-id g l = 2 ^ 64 - l.first
