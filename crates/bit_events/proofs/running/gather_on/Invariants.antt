use Rattle.std.proofs.Common.{◌-◌, ◌≤◌, ◌^◌, length}
use Rattle.bit_fields.specs.Buffered.{beyond}
use Rattle.bit_fields.specs.BufferedParts.{bits_of_parts}
use Rattle.bit_events.specs.MachineView.{TookSome}
use Rattle.bit_events.specs.Runs.{GathersTo}
use Rattle.bit_events.proofs.running.gather_on.Given as goal

abbrev pub invariant-loop-run : goal.invariant-loop-run
invariant-loop-run g l = record {
  least : (bits_of_parts l.fn.parts).position ≤ l.first;
  there : l.first - (bits_of_parts l.fn.parts).position ≤ length (bits_of_parts l.fn.parts).bits;
  gathers : GathersTo g.G.Gatherer.gathered l.limits l.frame l.fn.used (beyond (bits_of_parts l.fn.parts) (l.fn.start - (bits_of_parts l.fn.parts).position)) l.fn.gatherer l.used (beyond (bits_of_parts l.fn.parts) (l.first - (bits_of_parts l.fn.parts).position)) l.gatherer;
  took : TookSome g.G.Values.ValueTaker.took l.values;
}

abbrev pub decreases-loop-run : goal.decreases-loop-run
decreases-loop-run g l = 2 ^ 64 - l.first
