use Rattle.bit_grammar.proofs.Bits.Tables.{limit_enough, limit_least}
use Rattle.bit_grammar.proofs.field_laws.chunks_for_64_bits.Goals as goal

pub returns-clause-enough : goal.returns-clause-enough
returns-clause-enough c = limit_enough

pub returns-clause-least : goal.returns-clause-least
returns-clause-least c = limit_least
