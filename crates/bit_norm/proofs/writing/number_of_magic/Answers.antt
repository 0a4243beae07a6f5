use Rattle.std.proofs.Common.{◌∙◌, rules}
use Rattle.bit_tree.proofs.Magics.{magic_is}
use Rattle.bit_norm.proofs.writing.number_of_magic.Goals as goal

pub returns-clause-magic : goal.returns-clause-magic
returns-clause-magic c = c.from.ensures ∙ c.from_le_bytes.ensures ∙ magic_is c.args.magic (search rules) (search rules)
