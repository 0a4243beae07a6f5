use Rattle.bit_grammar.proofs.Words.Fields.{fixed_is, is_fixed}
use Rattle.bit_grammar.proofs.field_laws.fixed_in_bits.Goals as goal

pub returns : goal.returns
returns c = λ n p s v. (fixed_is n p s v, is_fixed n p s v)
