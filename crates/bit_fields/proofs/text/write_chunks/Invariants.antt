use Rattle.std.proofs.Common.{length}
use Rattle.bit_fields.specs.Texts.{bits_of_chunks}
use Rattle.bit_fields.proofs.Texts.{Going}
use Rattle.bit_fields.proofs.text.write_chunks.Given as goal

abbrev pub invariant-loop-left : goal.invariant-loop-left
invariant-loop-left g l = Going (bits_of_chunks l.fn.chunks.items) l.fn.writer l.writer (bits_of_chunks l.left.items)

abbrev pub decreases-loop-left : goal.decreases-loop-left
decreases-loop-left g l = length l.left.items
