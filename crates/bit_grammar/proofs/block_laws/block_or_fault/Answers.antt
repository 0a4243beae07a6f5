use Rattle.bit_grammar.specs.Blocks.{top_block}
use Rattle.bit_grammar.proofs.Readings.Deciding.{decides}
use Rattle.bit_grammar.proofs.block_laws.block_or_fault.Goals as goal

pub returns : goal.returns
returns c = λ limits handed p r. decides (top_block limits handed) p r
