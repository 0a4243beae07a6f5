use Rattle.std.proofs.Common.{ap, ◌∙◌, length, arith}
use Rattle.bit_grammar.proofs.Bits.Numbers.{length-bits_of}
use Rattle.bit_fields.proofs.writer.BitWriter.field.Goals as goal

pub append-requires-clause-position : goal.append-requires-clause-position
append-requires-clause-position g c = omega (arith, c.requires.position, ap length c.of.ensures ∙ length-bits_of c.args.n c.args.value)
