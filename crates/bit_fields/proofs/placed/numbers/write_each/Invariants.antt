use Rattle.std.proofs.Common.{◌+◌, ◌-◌, ◌*◌, ◌^◌, ◌<◌, ◌≤◌, length}
use Rattle.bit_fields.specs.Pens.{WritesSixes}
use Rattle.bit_fields.specs.Placed.{bits_at}
use Rattle.bit_fields.proofs.placed.numbers.write_each.Given as goal

abbrev pub invariant-loop-left : goal.invariant-loop-left
invariant-loop-left l = record {
  few : l.left ≤ l.count;
  at : l.bits.1.1.0 ≤ 8 * length l.bits.0.now;
  fits : l.bits.1.0 + 8 * length l.bits.0.now < 2 ^ 64;
  there : 64 ≤ length (bits_at l.bits.1.0 l.bits.1.1.0 l.bits.0.now).bits;
  writes : WritesSixes (l.count - l.left) (bits_at 0 l.place l.from) l.first l.fn.bytes l.pen (bits_at l.bits.1.0 l.bits.1.1.0 l.bits.0.now) l.bytes;
}

abbrev pub decreases-loop-left : goal.decreases-loop-left
decreases-loop-left l = l.left
