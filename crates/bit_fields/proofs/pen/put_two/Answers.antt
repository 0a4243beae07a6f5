use Rattle.std.proofs.Common.{◌++◌, arith}
use Rattle.bit_grammar.specs.FormatFields.{shortest}
use Rattle.bit_fields.proofs.Pens.{puts_as, puts_then, six_range, two_joined}
use Rattle.bit_fields.proofs.pen.put_two.Goals as goal

pub put_number-requires-clause-room : goal.put_number-requires-clause-room
put_number-requires-clause-room c = omega (arith, c.put_number-pen.ensures.ends, c.put_number-pen.ensures.same, (six_range c.args.first).1, c.requires.room)

pub returns-then-first : goal.returns-then-first
returns-then-first c = puts_then (shortest 6 c.args.first) (shortest 6 c.args.second) c.args.at c.put_number-pen.result c.put_number.result c.args.bytes.now c.put_number-pen.new.bytes c.put_number.new.bytes c.put_number-pen.ensures c.put_number.ensures

pub put-requires-clause-fits : goal.put-requires-clause-fits
put-requires-clause-fits c =
    let one = c.some_chunks-one in
    let two = c.some_chunks-two in
    (two_joined one.result.1 two.result.1 one.result.0 two.result.0 (shortest 6 c.args.first) (shortest 6 c.args.second) one.ensures.below two.ensures.below (omega (arith, one.ensures.few, two.ensures.few)) one.ensures.spelled two.ensures.spelled).0

pub returns : goal.returns
returns c =
    let one = c.some_chunks-one in
    let two = c.some_chunks-two in
    puts_as _ (shortest 6 c.args.first ++ shortest 6 c.args.second) c.args.at c.put.result c.args.bytes.now c.put.new.bytes
    (two_joined one.result.1 two.result.1 one.result.0 two.result.0 (shortest 6 c.args.first) (shortest 6 c.args.second) one.ensures.below two.ensures.below (omega (arith, one.ensures.few, two.ensures.few)) one.ensures.spelled two.ensures.spelled).1
    c.put.ensures
