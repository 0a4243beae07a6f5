use Rattle.std.proofs.Common.{◌+◌, ◌-◌, ◌*◌, ◌<◌, ◌≤◌, length, drop}
use Rattle.bit_grammar.specs.Bits.{bits_of_bytes}
use Rattle.bit_fields.proofs.SixSteps.{Passed}
use Rattle.bit_fields.proofs.placed.bits.pass_sixes.Given as goal

abbrev pub invariant-loop-left : goal.invariant-loop-left
invariant-loop-left l = record {
  few : l.left ≤ l.count;
  bit : l.shift < 8;
  on : l.from ≤ 8 * l.place + l.shift;
  there : l.place ≤ length l.bytes;
  passed : Passed (l.count - l.left) l.before (8 * l.place + l.shift - l.from) (drop l.from (bits_of_bytes l.bytes));
}

abbrev pub decreases-loop-left : goal.decreases-loop-left
decreases-loop-left l = length l.bytes - l.place
