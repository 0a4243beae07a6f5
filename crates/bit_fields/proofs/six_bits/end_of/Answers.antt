use Rattle.std.proofs.Common.{◌≡◌, ◌+◌, ◌-◌, ap, ◌∙◌, arith, bit_and}
use Rattle.std.specs.Int.{w64, bit_at, trailing_zeros}
use Rattle.bit_fields.specs.SixEnds.{tops}
use Rattle.bit_fields.proofs.SixBitSums.{reached_in, end_ran, none_ran}
use Rattle.bit_fields.proofs.six_bits.end_of.Goals as goal

pub returns-clause-reads : goal.returns-clause-reads
returns-clause-reads c = (end_ran c.args.ends c.args.count (omega arith) c.requires.some c.requires.few c.if-reached-eq0.false).0.begins

pub returns-clause-most : goal.returns-clause-most
returns-clause-most c = (end_ran c.args.ends c.args.count (omega arith) c.requires.some c.requires.few c.if-reached-eq0.false).0.within

pub returns-clause-last : goal.returns-clause-last
returns-clause-last c =
    let reached = reached_in (bit_and c.args.ends (tops 9)) c.args.count in
    let e : trailing_zeros w64 reached + 1 - 1 ≡ trailing_zeros w64 reached = omega arith in
    ap (bit_at c.args.ends) e ∙ (end_ran c.args.ends c.args.count (omega arith) c.requires.some c.requires.few c.if-reached-eq0.false).1

pub returns-clause-ends : goal.returns-clause-ends
returns-clause-ends c = (end_ran c.args.ends c.args.count (omega arith) c.requires.some c.requires.few c.if-reached-eq0.false).0.ends

pub returns-then-reached-eq0-clause-none : goal.returns-then-reached-eq0-clause-none
returns-then-reached-eq0-clause-none c = none_ran c.args.ends c.args.count (omega arith) c.requires.some c.if-reached-eq0.true
