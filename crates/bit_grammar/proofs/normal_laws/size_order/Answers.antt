use Rattle.bit_grammar.proofs.NormalForms.Sizes.{end_grows, end_more, size_under}
use Rattle.bit_grammar.proofs.normal_laws.size_order.Goals as goal

pub returns : goal.returns
returns c = record { grows = end_grows; later = end_more; under = size_under }
