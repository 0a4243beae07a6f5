use Rattle.std.proofs.Common.{rules, ◌*◌, arith}
use Rattle.std.proofs.lemmas.Nat.{le_bytes_8}
use Rattle.bit_fields.proofs.BitLaws.{low_bits_below, low_bits}
use Rattle.bit_fields.proofs.word.word_of.Goals as goal

pub returns-clause-below : goal.returns-clause-below
returns-clause-below c = low_bits_below c.from_le_bytes-word.result (8 * c.args.count) (omega arith) (omega arith)

pub returns-clause-bits : goal.returns-clause-bits
returns-clause-bits c = low_bits c.from_le_bytes-word.result c.args.count c.args.bytes (le_bytes_8 c.args.bytes _ (search rules) (search rules) c.from_le_bytes-word.ensures) (search rules) c.requires (omega arith)
