use Rattle.bit_grammar.proofs.Words.Spellings.{unabbreviated_is, is_unabbreviated}
use Rattle.bit_grammar.proofs.record_laws.unabbreviated_in_words.Goals as goal

pub returns : goal.returns
returns c = λ room p s e. (unabbreviated_is room p s e, λ h. is_unabbreviated room p s e h.0 h.1)
