use Rattle.bit_grammar.specs.Blocks.{block}
use Rattle.bit_grammar.proofs.Readings.Items.{head_width}
use Rattle.bit_grammar.proofs.Readings.Rounds.{item_some, block_some, body_halts, stream_breaks}
use Rattle.bit_grammar.proofs.block_laws.no_idle_round.Goals as goal

pub returns : goal.returns
returns c = record {
  item = λ shapes depth limit h scope p x wide k. item_some shapes (block shapes depth limit) h limit scope p x wide k;
  block = block_some;
  width = head_width;
  body = λ idle other shapes depth limit h scope p r fault wide k. body_halts idle other shapes (block shapes depth limit) h limit scope p r fault wide k;
  stream = stream_breaks;
}
