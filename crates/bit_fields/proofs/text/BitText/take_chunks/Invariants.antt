use Rattle.std.proofs.Common.{◌≡◌, ◌≤◌, ◌++◌, length}
use Rattle.bit_fields.specs.Texts.{bits_of_chunks, AreFull}
use Rattle.bit_fields.proofs.text.BitText.take_chunks.Given as goal

abbrev pub invariant-loop-chunks : goal.invariant-loop-chunks
invariant-loop-chunks l = record {
  moved : l.self ++ bits_of_chunks l.chunks.items ≡ l.fn.self ++ bits_of_chunks l.fn.chunks.items;
  full : AreFull l.chunks.items;
  fewer : length l.chunks.items ≤ length l.fn.chunks.items;
}

abbrev pub decreases-loop-chunks : goal.decreases-loop-chunks
decreases-loop-chunks l = length l.chunks.items
