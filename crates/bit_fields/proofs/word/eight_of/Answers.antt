use Rattle.std.proofs.Common.{◌∙◌, ap}
use Rattle.bit_grammar.specs.Bits.{bits_of_bytes}
use Rattle.bit_fields.proofs.Loading.{eight_first}
use Rattle.bit_fields.proofs.word.eight_of.Goals as goal

pub returns : goal.returns
returns c = c.word_of.ensures.bits ∙ ap bits_of_bytes (eight_first c.args.bytes.now c.requires)
