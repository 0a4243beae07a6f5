use Rattle.std.proofs.Common.{◌-◌, ◌*◌, ◌≤◌, length, take}
use Rattle.bit_fields.specs.Pens.{ReadsSixes}
use Rattle.bit_fields.specs.Placed.{bits_at}
use Rattle.bit_fields.proofs.placed.values.read_sixes.Given as goal

abbrev pub invariant-loop-next : goal.invariant-loop-next
invariant-loop-next l = record {
  within : l.next ≤ length l.values;
  there : l.at ≤ 8 * length l.from;
  reads : ReadsSixes (take l.next l.values) (bits_at 0 l.place l.from) (bits_at 0 l.at l.from);
}

abbrev pub decreases-loop-next : goal.decreases-loop-next
decreases-loop-next l = length l.initial.values - l.next
