use Rattle.std.proofs.Common.{arith}
use Rattle.bit_fields.proofs.writer.BitWriter.any_vbr.Goals as goal

pub append-requires-clause-position : goal.append-requires-clause-position
append-requires-clause-position g c = omega (arith, c.requires.position, c.chunks_of.ensures.most)
