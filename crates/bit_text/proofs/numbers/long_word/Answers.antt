use Rattle.bit_text.proofs.Digits.{digit_more}
use Rattle.bit_text.proofs.numbers.long_word.Goals as goal

pub loop-i-preserved : goal.loop-i-preserved
loop-i-preserved c = digit_more c.args.text.now c.args.from c.loop-i.i c.loop-i.n c.with_digit-n.result c.loop-i-test.true c.with_digit-n.ensures.digits c.loop-i.invariant
