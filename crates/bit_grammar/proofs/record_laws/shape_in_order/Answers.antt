use Rattle.bit_grammar.proofs.Words.Operands.{order_is}
use Rattle.bit_grammar.proofs.record_laws.shape_in_order.Goals as goal

pub returns : goal.returns
returns c = order_is
