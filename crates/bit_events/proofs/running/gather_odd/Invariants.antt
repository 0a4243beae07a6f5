use Rattle.std.proofs.Common.{◌≡◌, ◌-◌, ◌<◌, ◌^◌, false}
use Rattle.bit_events.specs.MachineView.{TookSome}
use Rattle.bit_events.specs.Runs.{GathersTo}
use Rattle.bit_events.proofs.running.gather_odd.Given as goal

abbrev pub invariant-loop-is_first : goal.invariant-loop-is_first
invariant-loop-is_first g l = record {
  gathers : GathersTo g.G.Gatherer.gathered l.limits l.frame l.fn.used l.fn.buffered l.fn.gatherer l.spent l.buffered l.gatherer;
  room : l.room ≡ l.limits.values - l.spent;
  first : l.first ≡ l.buffered.position;
  took : TookSome g.G.Values.ValueTaker.took l.values;
  moved : l.is_first ≡ false → l.fn.buffered.position < l.first;
}

abbrev pub decreases-loop-is_first : goal.decreases-loop-is_first
decreases-loop-is_first g l = 2 ^ 64 - l.first
