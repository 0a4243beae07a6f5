use Rattle.std.proofs.Common.{◌-◌, ◌^◌}
use Rattle.bit_fields.specs.BufferedParts.{bits_of_parts}
use Rattle.bit_events.specs.MachineView.{TookSome}
use Rattle.bit_events.specs.Runs.{GathersUpTo}
use Rattle.bit_events.proofs.folding.gather_blocks.Given as goal

abbrev pub invariant-loop-first : goal.invariant-loop-first
invariant-loop-first g l = record {
  on : GathersUpTo g.G.Gatherer.gathered l.limits l.fn.machine (bits_of_parts l.fn.parts) l.fn.gatherer l.machine l.first l.gatherer;
  took : TookSome g.G.Values.ValueTaker.took l.values;
}

abbrev pub decreases-loop-first : goal.decreases-loop-first
decreases-loop-first g l = 2 ^ 64 - l.first
