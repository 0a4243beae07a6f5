use Rattle.std.proofs.Common.{arith}
use Rattle.std.proofs.lemmas.Fmt.{length-decimal-le}
use Rattle.bit_scan.proofs.Forwards.{counted, three_more}
use Rattle.bit_scan.proofs.digits.digits_of.Goals as goal

pub overflow_add-count : goal.overflow_add-count
overflow_add-count c = omega (arith, c.loop-left.invariant, length-decimal-le 20 c.args.number (omega arith) (omega arith) c.ranges.number.fits)

pub loop-left-preserved : goal.loop-left-preserved
loop-left-preserved c = omega (arith, c.loop-left.invariant, three_more c.loop-left.left c.loop-left-test.true c.loop-left.auto.left-fits.fits)

pub overflow_add-result : goal.overflow_add-result
overflow_add-result c = omega (arith, c.loop-left.invariant, counted c.loop-left.left c.entry_of.result c.loop-left-test.false c.entry_of.ensures, length-decimal-le 20 c.args.number (omega arith) (omega arith) c.ranges.number.fits)

pub returns-clause-count : goal.returns-clause-count
returns-clause-count c = omega (arith, c.loop-left.invariant, counted c.loop-left.left c.entry_of.result c.loop-left-test.false c.entry_of.ensures)

pub returns-clause-most : goal.returns-clause-most
returns-clause-most c = omega (arith, c.loop-left.invariant, counted c.loop-left.left c.entry_of.result c.loop-left-test.false c.entry_of.ensures, length-decimal-le 20 c.args.number (omega arith) (omega arith) c.ranges.number.fits)
