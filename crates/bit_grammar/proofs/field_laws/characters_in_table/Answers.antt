use Rattle.bit_grammar.proofs.Bits.Tables.{character_is}
use Rattle.bit_grammar.proofs.field_laws.characters_in_table.Goals as goal

pub returns : goal.returns
returns c = character_is
