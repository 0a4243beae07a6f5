use Rattle.std.proofs.Common.{◌≡◌, ◌-◌, ◌*◌, ◌≤◌, length, take, bit_and}
use Rattle.bit_fields.specs.Buffered.{BufferedBits}
use Rattle.bit_fields.specs.Pens.{ReadsSixes}
use Rattle.bit_fields.specs.Placed.{bits_at}
use Rattle.bit_fields.specs.PlacedView.{loaded}
use Rattle.bit_fields.specs.SixEnds.{tops}
use Rattle.bit_fields.proofs.SixLoads.{Loads}
use Rattle.bit_fields.proofs.placed.values.read_load.Given as goal

abbrev pub invariant-loop-tops : goal.invariant-loop-tops
invariant-loop-tops l = record {
  on : l.first ≤ l.next;
  within : l.next ≤ length l.values;
  begun : l.next ≡ l.first → l.tops ≡ bit_and l.load.ends (tops 9);
  there : l.at ≤ 8 * length l.load.bits.bytes.now;
  loads : Loads l.word l.tops (bits_at l.load.bits.start l.at l.load.bits.bytes.now);
  reads : (before : BufferedBits) → ReadsSixes (take l.first l.fn.values) before (loaded l.load) → ReadsSixes (take l.next l.values) before (bits_at l.load.bits.start l.at l.load.bits.bytes.now);
}

abbrev pub decreases-loop-tops : goal.decreases-loop-tops
decreases-loop-tops l = length l.initial.values - l.next
