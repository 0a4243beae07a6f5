use Rattle.bit_grammar.proofs.Words.Spellings.{definition_agrees}
use Rattle.bit_grammar.proofs.record_laws.definition_in_words.Goals as goal

pub returns : goal.returns
returns c = definition_agrees
