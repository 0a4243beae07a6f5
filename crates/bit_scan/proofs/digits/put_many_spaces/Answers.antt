use Rattle.std.proofs.Common.{arith}
use Rattle.bit_scan.proofs.Forwards.{more_spaces, fewer_spaces}
use Rattle.bit_scan.proofs.digits.put_many_spaces.Goals as goal

pub loop-done-preserved : goal.loop-done-preserved
loop-done-preserved c =
    let l = c.loop-done in
    (omega arith, omega (arith, l.invariant.1, c.put_text.ensures.long), more_spaces l.done c.args.at c.put_text.result c.args.bytes.now l.bytes c.put_text.new.bytes (omega (arith, c.put_text.ensures.end)) l.invariant.2 c.put_text.ensures.wrote)

pub returns-clause-wrote : goal.returns-clause-wrote
returns-clause-wrote c = fewer_spaces c.args.count c.loop-done.done c.args.at c.args.bytes.now c.loop-done.bytes c.loop-done-test.false (omega arith) c.loop-done.invariant.2
