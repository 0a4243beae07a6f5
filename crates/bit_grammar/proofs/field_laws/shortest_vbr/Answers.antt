use Rattle.bit_grammar.proofs.Words.Fields.{short_is_vbr, short_is_least}
use Rattle.bit_grammar.proofs.field_laws.shortest_vbr.Goals as goal

pub returns : goal.returns
returns c = λ n v wide below. (short_is_vbr n v wide below, λ s h. short_is_least n v s wide h)
