use Rattle.std.proofs.Common.{◌≡◌, ◌==◌, ◌<◌, ◌≤◌, ◌-◌, ℕ, false, length, slice_index}
use Rattle.bit_text.proofs.line_end.line_end.Given as goal

abbrev pub invariant-loop-seen : goal.invariant-loop-seen
invariant-loop-seen l = record {
  low : l.from ≤ l.seen;
  high : l.seen ≤ length l.bytes;
  before : (k : ℕ) → l.from ≤ k → k < l.seen → (slice_index l.bytes k == 10) ≡ false;
}

abbrev pub decreases-loop-seen : goal.decreases-loop-seen
decreases-loop-seen l = length l.bytes - l.seen
