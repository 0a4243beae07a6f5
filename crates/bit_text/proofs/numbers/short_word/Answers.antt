use Rattle.std.proofs.Common.{◌+◌, arith}
use Rattle.bit_text.proofs.Digits.{no_digits, digit_next, word_there}
use Rattle.bit_text.proofs.numbers.short_word.Goals as goal

pub returns-then-third-eq32 : goal.returns-then-third-eq32
returns-then-third-eq32 c =
    let text = c.args.text.now in
    let from = c.args.from in
    let none = no_digits text from (omega arith) in
    let one = digit_next text from from (from + 1) 0 c.with_digit-one.result (omega arith) (omega arith) c.with_digit-one.ensures.digits none in
    let two = digit_next text from (from + 1) (from + 2) c.with_digit-one.result c.with_digit-two.result (omega arith) (omega arith) c.with_digit-two.ensures.digits one in
    word_there text from (from + 2) c.with_digit-two.result c.if-third-eq32.true two

pub returns-then-fourth-eq32 : goal.returns-then-fourth-eq32
returns-then-fourth-eq32 c =
    let text = c.args.text.now in
    let from = c.args.from in
    let none = no_digits text from (omega arith) in
    let one = digit_next text from from (from + 1) 0 c.with_digit-one.result (omega arith) (omega arith) c.with_digit-one.ensures.digits none in
    let two = digit_next text from (from + 1) (from + 2) c.with_digit-one.result c.with_digit-two.result (omega arith) (omega arith) c.with_digit-two.ensures.digits one in
    let three = digit_next text from (from + 2) (from + 3) c.with_digit-two.result c.with_digit-three.result (omega arith) (omega arith) c.with_digit-three.ensures.digits two in
    word_there text from (from + 3) c.with_digit-three.result c.if-fourth-eq32.true three

pub returns : goal.returns
returns c =
    let text = c.args.text.now in
    let from = c.args.from in
    let none = no_digits text from (omega arith) in
    let one = digit_next text from from (from + 1) 0 c.with_digit-one.result (omega arith) (omega arith) c.with_digit-one.ensures.digits none in
    let two = digit_next text from (from + 1) (from + 2) c.with_digit-one.result c.with_digit-two.result (omega arith) (omega arith) c.with_digit-two.ensures.digits one in
    let three = digit_next text from (from + 2) (from + 3) c.with_digit-two.result c.with_digit-three.result (omega arith) (omega arith) c.with_digit-three.ensures.digits two in
    let four = digit_next text from (from + 3) (from + 4) c.with_digit-three.result c.with_digit.result (omega arith) (omega arith) c.with_digit.ensures.digits three in
    word_there text from (from + 4) c.with_digit.result c.if-text-from-ne32.false four
