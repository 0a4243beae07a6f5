use Rattle.std.proofs.Common.{◌*◌, ◌+◌, ◌∙◌, ap, length, length-append, take, take-take}
use Rattle.bit_grammar.specs.Bits.{bits_of, bits_of_bytes}
use Rattle.bit_grammar.proofs.Bits.Numbers.{length-bits_of}
use Rattle.bit_fields.proofs.Loading.{eight_first}
use Rattle.bit_fields.proofs.Words.{some_moved}
use Rattle.bit_fields.proofs.buffered.load_some.Goals as goal

pub returns-clause-same : goal.returns-clause-same
returns-clause-same c = some_moved c.args.count c.args.window.now c.push.new.self c.word_of.result c.args.bytes.now c.push.ensures (c.word_of.ensures.bits ∙ ap bits_of_bytes (ap (take c.args.count) (eight_first c.args.bytes.now c.requires.there) ∙ take-take c.args.count 8 c.args.bytes.now c.requires.few))

pub returns-clause-longer : goal.returns-clause-longer
returns-clause-longer c = ap length c.push.ensures ∙ length-append c.args.window.now (bits_of (8 * c.args.count) c.word_of.result) ∙ ap (λ n. length c.args.window.now + n) (length-bits_of (8 * c.args.count) c.word_of.result)
