use Rattle.bit_grammar.proofs.Words.Fields.{char6_is, is_char6}
use Rattle.bit_grammar.proofs.field_laws.char6_in_bits.Goals as goal

pub returns : goal.returns
returns c = λ p s v. (char6_is p s v, is_char6 p s v)
