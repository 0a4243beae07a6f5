-- The model of a block's head of the program.
use Rattle.bit_grammar.specs.Blocks as blocks
use Rattle.bit_events.specs.declared.head.BlockHead.{BlockHead}

abbrev pub head_shown : BlockHead → blocks.BlockHead
head_shown h = record {
  id = h.id;
  width = h.width;
  length_at = h.length_at;
  words = h.words;
  body = h.body;
}
