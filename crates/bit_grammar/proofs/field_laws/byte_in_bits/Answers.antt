use Rattle.bit_grammar.specs.Fields.{byte}
use Rattle.bit_grammar.proofs.Words.Fields.{fixed_is, is_fixed}
use Rattle.bit_grammar.proofs.field_laws.byte_in_bits.Goals as goal

pub returns : goal.returns
unfolding byte
returns c = λ p s v. (fixed_is 8 p s v, is_fixed 8 p s v)
