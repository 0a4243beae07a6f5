use Rattle.bit_grammar.proofs.Words.Fields.{align_is, is_align}
use Rattle.bit_grammar.proofs.field_laws.padding_in_zeros.Goals as goal

pub returns : goal.returns
returns c = λ p s. (align_is p s tt, is_align p s)
