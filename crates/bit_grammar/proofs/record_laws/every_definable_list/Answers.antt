use Rattle.bit_grammar.proofs.Words.Spellings.{definable_spelled}
use Rattle.bit_grammar.proofs.record_laws.every_definable_list.Goals as goal

pub returns : goal.returns
returns c = definable_spelled
