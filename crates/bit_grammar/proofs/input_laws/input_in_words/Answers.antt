use Rattle.bit_grammar.proofs.Words.InputWords.{input_agrees}
use Rattle.bit_grammar.proofs.input_laws.input_in_words.Goals as goal

pub returns : goal.returns
returns c = input_agrees
