use Rattle.std.proofs.Common.{◌+◌, arith}
use Rattle.bit_text.proofs.Runs.{no_run, run_more}
use Rattle.bit_text.proofs.numbers.quick_word.Goals as goal

pub returns-then-not-is_digit-3-clause-number : goal.returns-then-not-is_digit-3-clause-number
returns-then-not-is_digit-3-clause-number c =
    let text = c.args.text.now in
    let from = c.args.from in
    let none = no_run text from in
    let one = run_more text from from (from + 1) 0 c.with_digit-one.result (omega arith) c.with_digit-one.ensures.digits none in
    let two = run_more text from (from + 1) (from + 2) c.with_digit-one.result c.with_digit-two.result (omega arith) c.with_digit-two.ensures.digits one in
    two

pub returns-then-not-is_digit-4-clause-number : goal.returns-then-not-is_digit-4-clause-number
returns-then-not-is_digit-4-clause-number c =
    let text = c.args.text.now in
    let from = c.args.from in
    let none = no_run text from in
    let one = run_more text from from (from + 1) 0 c.with_digit-one.result (omega arith) c.with_digit-one.ensures.digits none in
    let two = run_more text from (from + 1) (from + 2) c.with_digit-one.result c.with_digit-two.result (omega arith) c.with_digit-two.ensures.digits one in
    let three = run_more text from (from + 2) (from + 3) c.with_digit-two.result c.with_digit-three.result (omega arith) c.with_digit-three.ensures.digits two in
    three

pub returns-then-not-is_digit-5-clause-number : goal.returns-then-not-is_digit-5-clause-number
returns-then-not-is_digit-5-clause-number c =
    let text = c.args.text.now in
    let from = c.args.from in
    let none = no_run text from in
    let one = run_more text from from (from + 1) 0 c.with_digit-one.result (omega arith) c.with_digit-one.ensures.digits none in
    let two = run_more text from (from + 1) (from + 2) c.with_digit-one.result c.with_digit-two.result (omega arith) c.with_digit-two.ensures.digits one in
    let three = run_more text from (from + 2) (from + 3) c.with_digit-two.result c.with_digit-three.result (omega arith) c.with_digit-three.ensures.digits two in
    let four = run_more text from (from + 3) (from + 4) c.with_digit-three.result c.with_digit-four.result (omega arith) c.with_digit-four.ensures.digits three in
    four

pub returns-then-not-is_digit-6-clause-number : goal.returns-then-not-is_digit-6-clause-number
returns-then-not-is_digit-6-clause-number c =
    let text = c.args.text.now in
    let from = c.args.from in
    let none = no_run text from in
    let one = run_more text from from (from + 1) 0 c.with_digit-one.result (omega arith) c.with_digit-one.ensures.digits none in
    let two = run_more text from (from + 1) (from + 2) c.with_digit-one.result c.with_digit-two.result (omega arith) c.with_digit-two.ensures.digits one in
    let three = run_more text from (from + 2) (from + 3) c.with_digit-two.result c.with_digit-three.result (omega arith) c.with_digit-three.ensures.digits two in
    let four = run_more text from (from + 3) (from + 4) c.with_digit-three.result c.with_digit-four.result (omega arith) c.with_digit-four.ensures.digits three in
    let five = run_more text from (from + 4) (from + 5) c.with_digit-four.result c.with_digit-five.result (omega arith) c.with_digit-five.ensures.digits four in
    five

pub returns-clause-number : goal.returns-clause-number
returns-clause-number c =
    let text = c.args.text.now in
    let from = c.args.from in
    let none = no_run text from in
    let one = run_more text from from (from + 1) 0 c.with_digit-one.result (omega arith) c.with_digit-one.ensures.digits none in
    let two = run_more text from (from + 1) (from + 2) c.with_digit-one.result c.with_digit-two.result (omega arith) c.with_digit-two.ensures.digits one in
    let three = run_more text from (from + 2) (from + 3) c.with_digit-two.result c.with_digit-three.result (omega arith) c.with_digit-three.ensures.digits two in
    let four = run_more text from (from + 3) (from + 4) c.with_digit-three.result c.with_digit-four.result (omega arith) c.with_digit-four.ensures.digits three in
    let five = run_more text from (from + 4) (from + 5) c.with_digit-four.result c.with_digit-five.result (omega arith) c.with_digit-five.ensures.digits four in
    let six = run_more text from (from + 5) (from + 6) c.with_digit-five.result c.with_digit-six.result (omega arith) c.with_digit-six.ensures.digits five in
    six
