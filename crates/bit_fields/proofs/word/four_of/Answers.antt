use Rattle.std.proofs.Common.{rules, ◌∙◌}
use Rattle.std.proofs.lemmas.Nat.{le_bytes_4}
use Rattle.bit_fields.proofs.Words.{four_first, four_bits}
use Rattle.bit_fields.proofs.word.four_of.Goals as goal

pub returns-clause-bits : goal.returns-clause-bits
returns-clause-bits c = four_bits c.from.result _ c.args.bytes.now (le_bytes_4 _ c.from.result (search rules) (search rules) (c.from.ensures ∙ c.from_le_bytes.ensures)) (four_first c.args.bytes.now c.requires)
