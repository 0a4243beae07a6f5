use Rattle.std.proofs.Common.{◌++◌, refl}
use Rattle.bit_grammar.specs.Bits.{bits_of}
use Rattle.bit_grammar.specs.FormatFields.{shortest}
use Rattle.bit_fields.proofs.WriterChunks.{front_spelled}
use Rattle.bit_fields.proofs.Pens.{puts_as, puts_then}
use Rattle.bit_fields.proofs.pen.put_front.Goals as goal

pub returns-then-count-lt32 : goal.returns-then-count-lt32
returns-then-count-lt32 c =
    puts_as _ (bits_of 2 3 ++ (shortest 6 c.args.code ++ shortest 6 c.args.count)) c.args.at c.put.result c.args.bytes.now c.put.new.bytes
    (front_spelled c.args.code c.args.count _ c.if-code-lt32.true c.if-count-lt32.true refl) c.put.ensures

pub returns : goal.returns
returns c = puts_then (bits_of 2 3) (shortest 6 c.args.code ++ shortest 6 c.args.count) c.args.at c.put-pen.result c.put_two.result c.args.bytes.now c.put-pen.new.bytes c.put_two.new.bytes c.put-pen.ensures c.put_two.ensures
