use Rattle.bit_grammar.proofs.Words.OneInput.{one_tree_in_words as one_law}
use Rattle.bit_grammar.proofs.input_laws.one_tree_in_words.Goals as goal

pub returns : goal.returns
returns c = one_law
