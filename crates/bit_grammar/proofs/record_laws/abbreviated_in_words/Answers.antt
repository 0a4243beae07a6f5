use Rattle.bit_grammar.proofs.Words.Spellings.{abbreviated_is, is_abbreviated}
use Rattle.bit_grammar.proofs.record_laws.abbreviated_in_words.Goals as goal

pub returns : goal.returns
returns c = λ start room ops p s e lawful. (abbreviated_is start room ops p s e lawful, λ h. is_abbreviated start room ops p s e lawful h.0 h.1)
