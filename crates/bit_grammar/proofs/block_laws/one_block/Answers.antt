use Rattle.bit_grammar.specs.Blocks.{top_block}
use Rattle.bit_grammar.proofs.Readings.Deciding.{one_value}
use Rattle.bit_grammar.proofs.block_laws.one_block.Goals as goal

pub returns : goal.returns
returns c = λ limits handed p s t x y v w e h k. one_value (top_block limits handed) p s t x y v w e h k
