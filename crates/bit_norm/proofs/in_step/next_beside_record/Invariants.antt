use Rattle.std.proofs.Common.{◌≡◌, ◌-◌, ◌^◌}
use Rattle.bit_events.specs.Coming.{TellsComing}
use Rattle.bit_events.specs.Standing.{left_of}
use Rattle.bit_norm.specs.InStep.{stand_of, told_entries}
use Rattle.bit_norm.proofs.in_step.next_beside_record.Given as goal

abbrev pub invariant-events : goal.invariant-events
invariant-events l = TellsComing l.initial.events → TellsComing l.events × (told_entries (stand_of l.walk l.ended) (left_of l.initial.blocks l.initial.events.told.0) ≡ told_entries (stand_of l.walk l.ended) (left_of l.blocks l.events.told.0))

abbrev pub decreases-events : goal.decreases-events
decreases-events l = 2 ^ 64 - l.events.position
