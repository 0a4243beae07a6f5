use Rattle.std.proofs.Common.{◌-◌, ◌≤◌}
use Rattle.bit_events.specs.Coming.{PassesEvents}
use Rattle.bit_events.proofs.slice_events.SliceEvents.pass.Given as goal

abbrev pub invariant-loop-left : goal.invariant-loop-left
invariant-loop-left l = record {
  most : l.left ≤ l.most;
  passes : PassesEvents (l.most - l.left) l.fn.self l.self;
}

abbrev pub decreases-loop-left : goal.decreases-loop-left
decreases-loop-left l = l.left
