use Rattle.std.proofs.Common.{◌-◌, ◌*◌, ◌≤◌, length}
use Rattle.bit_fields.specs.Pens.{WritesSixes}
use Rattle.bit_fields.specs.Placed.{bits_at}
use Rattle.bit_fields.proofs.placed.numbers.write_sixes.Given as goal

abbrev pub invariant-loop-left : goal.invariant-loop-left
invariant-loop-left l = record {
  few : l.left ≤ l.count;
  there : l.at ≤ 8 * length l.from;
  writes : WritesSixes (l.count - l.left) (bits_at 0 l.place l.from) l.first l.fn.bytes l.pen (bits_at 0 l.at l.from) l.bytes;
}

abbrev pub decreases-loop-left : goal.decreases-loop-left
decreases-loop-left l = l.left
