use Rattle.std.proofs.Common.{arith, refl}
use Rattle.bit_fields.proofs.WriterChunks.{two_spelled}
use Rattle.bit_fields.proofs.pen.two_chunks.Goals as goal

pub returns-clause-spelled : goal.returns-clause-spelled
returns-clause-spelled c = two_spelled c.args.value _ c.requires (omega (arith, c.ranges.value)) refl
