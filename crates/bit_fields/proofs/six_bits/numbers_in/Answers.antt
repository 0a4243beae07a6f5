use Rattle.std.proofs.Common.{refl, arith}
use Rattle.bit_fields.proofs.SixBits.{begins}
use Rattle.bit_fields.proofs.SixBitSums.{summed, nine_at_most, all_ran, some_ran}
use Rattle.bit_fields.proofs.six_bits.numbers_in.Goals as goal

pub returns-then-most-eq0-clause-reads : goal.returns-then-most-eq0-clause-reads
returns-then-most-eq0-clause-reads c = begins c.args.word 0 0 refl

pub returns-then-total-most : goal.returns-then-total-most
returns-then-total-most c = let r = all_ran (summed c.args.word (omega arith)) in record { reads = r.0.begins; all = λ fewer. r.1; most = c.if-total-most.true; bits = r.0.within; none = r.0.none; some = r.0.some }

pub returns-else-total-most : goal.returns-else-total-most
returns-else-total-most c = let r = some_ran c.args.most (summed c.args.word (omega arith)) (omega arith) c.if-total-most.false in record { reads = r.begins; all = λ fewer. absurd (omega (arith, fewer)); most = omega arith; bits = r.within; none = r.none; some = r.some }

pub overflow_sub-reached : goal.overflow_sub-reached
overflow_sub-reached c = omega (arith, c.if-total-most.false, nine_at_most (summed c.args.word (omega arith)))
