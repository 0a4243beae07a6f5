use Rattle.std.proofs.Common.{arith}
use Rattle.std.proofs.lemmas.Result.{err_from_is_err_and}
use Rattle.bit_norm.proofs.AlikeBytes.{goes_no_further, takes_nothing}
use Rattle.bit_norm.proofs.Beginnings.{goes_on, takes_front, takes_lost, takes_next, takes_same}
use Rattle.bit_norm.proofs.alike.take_beginning.Goals as goal

pub returns-in_err-stop : goal.returns-in_err-stop
returns-in_err-stop g c =
    let failed = err_from_is_err_and c.from_residual.result c.from_residual.ensures.1 in
    let broke = c.in_err-stop.ensures in
    rw failed.1 (takes_lost c.args.limits c.args.first.now c.args.slices.now c.take_slices.new.slices (g.S.Source.incoming c.args.source.now) broke.mid c.requires (omega (arith, c.if-first-bytes.false, c.bytes.ensures.bytes)) broke.takes (g.S.Source.incoming c.take_slices.new.source) broke.none)

pub returns-in_err-take_next : goal.returns-in_err-take_next
returns-in_err-take_next g c =
    let a = g.S.Source.incoming c.args.source.now in
    let b = g.S.Source.incoming c.take_slices.new.source in
    let failed = err_from_is_err_and c.from_residual-in_err-take_next.result c.from_residual-in_err-take_next.ensures.1 in
    let on = goes_on c.args.first.now c.args.slices.now c.take_slices.new.slices a b c.in_ok-stop.stop c.in_default.not-End c.in_ok-stop.ensures in
    rw failed.1 (takes_lost c.args.limits c.args.first.now c.args.slices.now c.take_slices.new.slices a b c.requires (omega (arith, c.if-first-bytes.false, c.bytes.ensures.bytes)) on.0 (g.S.Source.incoming c.take_next.new.source) c.in_err-take_next.ensures)

pub returns-in-Some-eq0 : goal.returns-in-Some-eq0
returns-in-Some-eq0 g c =
    let a = g.S.Source.incoming c.args.source.now in
    let b = g.S.Source.incoming c.take_slices.new.source in
    let next = rw (c.in-Some-eq0.is, c.in-Some-eq0.field-0-test) at c.in_ok-take_next.ensures in
    let on = goes_on c.args.first.now c.args.slices.now c.take_slices.new.slices a b c.in_ok-stop.stop c.in_default.not-End c.in_ok-stop.ensures in
    takes_same c.args.limits c.args.first.now c.args.slices.now c.take_slices.new.slices a b c.requires (omega (arith, c.if-first-bytes.false, c.bytes.ensures.bytes)) on.0 c.take_next.new.next (g.S.Source.incoming c.take_next.new.source) c.if-slices-first.false next

pub returns-in-Some : goal.returns-in-Some
returns-in-Some g c =
    let a = g.S.Source.incoming c.args.source.now in
    let b = g.S.Source.incoming c.take_slices.new.source in
    let next = rw (c.in-Some.is) at c.in_ok-take_next.ensures in
    let on = goes_on c.args.first.now c.args.slices.now c.take_slices.new.slices a b c.in_ok-stop.stop c.in_default.not-End c.in_ok-stop.ensures in
    takes_next c.args.limits c.args.first.now c.args.slices.now c.take_slices.new.slices a b c.requires (omega (arith, c.if-first-bytes.false, c.bytes.ensures.bytes)) on.0 c.take_next.new.next (g.S.Source.incoming c.take_next.new.source) c.in-Some.more c.take_next.array_long (omega (arith, c.in-Some.more-test)) next

pub returns-then-slices-first : goal.returns-then-slices-first
returns-then-slices-first g c =
    let a = g.S.Source.incoming c.args.source.now in
    let b = g.S.Source.incoming c.take_slices.new.source in
    let on = goes_on c.args.first.now c.args.slices.now c.take_slices.new.slices a b c.in_ok-stop.stop c.in_default.not-End c.in_ok-stop.ensures in
    rw c.equal.ensures (takes_front c.args.limits c.args.first.now c.args.slices.now c.take_slices.new.slices a b c.requires (omega (arith, c.if-first-bytes.false, c.bytes.ensures.bytes)) on.0 c.args.next.now b 0 _ (omega arith) (omega arith) on.1 (takes_nothing b))

pub returns-in-None : goal.returns-in-None
returns-in-None g c =
    let a = g.S.Source.incoming c.args.source.now in
    let b = g.S.Source.incoming c.take_slices.new.source in
    let next = rw c.in-None.is at c.in_ok-take_next.ensures in
    let on = goes_on c.args.first.now c.args.slices.now c.take_slices.new.slices a b c.in_ok-stop.stop c.in_default.not-End c.in_ok-stop.ensures in
    takes_front c.args.limits c.args.first.now c.args.slices.now c.take_slices.new.slices a b c.requires (omega (arith, c.if-first-bytes.false, c.bytes.ensures.bytes)) on.0 c.take_next.new.next (g.S.Source.incoming c.take_next.new.source) 0 0 (omega arith) (omega arith) (goes_no_further c.args.first.now c.args.slices.now c.take_slices.new.slices a b on.0) next
