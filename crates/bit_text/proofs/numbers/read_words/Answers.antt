use Rattle.std.proofs.Common.{arith}
use Rattle.std.proofs.lemmas.Result.{err_from_is_err_and}
use Rattle.bit_text.proofs.Spelling.{word_goes_on, word_read, word_stopped}
use Rattle.bit_text.proofs.numbers.read_words.Goals as goal
use Rattle.bit_text.proofs.numbers.read_words.Goals.{then-b-eq32+in_ok-add_number, else-b-eq32}

pub returns-in_err-add_number : goal.returns-in_err-add_number
returns-in_err-add_number c =
    let failed = err_from_is_err_and c.from_residual.result c.from_residual.ensures.1 in
    rw (failed.1, failed.2) (word_stopped c.args.numbers.now.items c.args.text.now c.loop-i.numbers.items c.add_number.new.numbers.items c.in_err-add_number.field-0.0 c.loop-i.from c.loop-i.i c.loop-i-test.true c.if-b-eq32.true c.in_err-add_number.ensures c.loop-i.invariant.far)

pub loop-i-preserved : goal.loop-i-preserved
loop-i-preserved c =
    elim c.if-b-eq32.branch [
      | then-b-eq32+in_ok-add_number w ↦ rw (w.from-is, w.numbers-is) (record {
        within = omega arith;
        far = word_read c.args.numbers.now.items c.args.text.now c.loop-i.numbers.items w.add_number.new.numbers.items c.loop-i.from c.loop-i.i c.loop-i-test.true w.if-b-eq32.true w.in_ok-add_number.ensures c.loop-i.invariant.far;
      })
      | else-b-eq32 w ↦ rw (w.from-is, w.numbers-is) (record {
        within = omega arith;
        far = word_goes_on c.args.numbers.now.items c.args.text.now c.loop-i.numbers.items c.loop-i.from c.loop-i.i c.loop-i.invariant.within c.loop-i-test.true w.if-b-eq32.false c.loop-i.invariant.far;
      })
    ]
