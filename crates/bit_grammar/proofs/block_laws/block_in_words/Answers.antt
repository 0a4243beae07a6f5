use Rattle.bit_grammar.proofs.Words.TopWords.{block_agrees, top_only, block_leaves}
use Rattle.bit_grammar.proofs.block_laws.block_in_words.Goals as goal

pub returns : goal.returns
returns c = record { words = block_agrees; only = top_only; lawful = block_leaves }
