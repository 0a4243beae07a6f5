use Rattle.std.proofs.Common.{◌-◌, ◌++◌, Ok, arith}
use Rattle.std.proofs.Math.ListN.{replicate}
use Rattle.std.proofs.lemmas.List.{length-replicate}
use Rattle.std.proofs.lemmas.Result.{err_from_is_err_and}
use Rattle.bit_grammar.specs.Grammar.{gives}
use Rattle.bit_fields.proofs.Composing.{took_nothing}
use Rattle.bit_abbrev.proofs.Taking.{far_begins, far_goes_on, far_ends, passed_behind, zeros_took}
use Rattle.bit_abbrev.proofs.Missing.{far_full}
use Rattle.bit_abbrev.proofs.record.read_zeros.Goals as goal

pub loop-done-init : goal.loop-done-init
loop-done-init g c = λ before t. far_begins g.V.ValueTaker.took c.args.values.now (gives 0) c.args.count (g.B.Bits.as_reader c.args.bits.now) before c.requires.live t

pub returns-in_err-keep-clause-adds : goal.returns-in_err-keep-clause-adds
returns-in_err-keep-clause-adds g c =
    let failed = err_from_is_err_and c.from_residual.result c.from_residual.ensures.1 in
    rw (failed.1, failed.2) (λ fault said before t. far_full g.V.ValueTaker.took c.pass_zeros.new.self c.keep.new.values (gives 0) c.args.count (g.B.Bits.as_reader c.args.bits.now) before c.loop-done.done (g.B.Bits.as_reader c.loop-done.bits) 0 (g.B.Bits.as_reader c.loop-done.bits) fault (g.B.Bits.as_reader c.keep.new.bits) (let h = c.loop-done.invariant before t in (h.0, c.pass_zeros.ensures.no c.if-pass_zeros.false h.0 h.1, h.2)) (took_nothing 0 (g.B.Bits.as_reader c.loop-done.bits) (c.loop-done.invariant before t).2.all.live) c.in_err-keep.ensures.same (c.in_err-keep.ensures.err fault said))

pub returns-in_err-keep-clause-keeps : goal.returns-in_err-keep-clause-keeps
returns-in_err-keep-clause-keeps g c = λ before t. let h = c.loop-done.invariant before t in (h.0, c.in_err-keep.ensures.same h.0 (c.pass_zeros.ensures.no c.if-pass_zeros.false h.0 h.1))

pub loop-done-preserved : goal.loop-done-preserved
loop-done-preserved g c = λ before t.
    rw c.in_ok-keep.ensures.ok.0 (far_goes_on g.V.ValueTaker.took c.pass_zeros.new.self c.keep.new.values (gives 0) c.args.count (g.B.Bits.as_reader c.args.bits.now) before c.loop-done.done (g.B.Bits.as_reader c.loop-done.bits) 0 (g.B.Bits.as_reader c.loop-done.bits) c.loop-done-test.true (let h = c.loop-done.invariant before t in (h.0, c.pass_zeros.ensures.no c.if-pass_zeros.false h.0 h.1, h.2)) (took_nothing 0 (g.B.Bits.as_reader c.loop-done.bits) (c.loop-done.invariant before t).2.all.live) c.in_ok-keep.ensures.ok.1)

pub returns-clause-adds : goal.returns-clause-adds
returns-clause-adds g c = λ before t. far_ends g.V.ValueTaker.took c.loop-done.values (gives 0) c.args.count (g.B.Bits.as_reader c.args.bits.now) before c.loop-done.done (g.B.Bits.as_reader c.loop-done.bits) c.loop-done-test.false (omega arith) (c.loop-done.invariant before t)

pub returns-clause-keeps : goal.returns-clause-keeps
returns-clause-keeps g c = λ before t. let h = c.loop-done.invariant before t in (h.0, h.1)

pub returns-then-pass_zeros-clause-adds : goal.returns-then-pass_zeros-clause-adds
returns-then-pass_zeros-clause-adds g c = λ before t.
    let left = c.args.count - c.loop-done.done in
    let others = replicate left 0 in
    let many = length-replicate left 0 in
    let here = c.loop-done.invariant before t in
    passed_behind g.V.ValueTaker.took c.loop-done.values c.pass_zeros.new.self (gives 0) c.args.count (g.B.Bits.as_reader c.args.bits.now) before c.loop-done.done (g.B.Bits.as_reader c.loop-done.bits) others (Ok tt) (g.B.Bits.as_reader c.loop-done.bits) c.loop-done-test.true here (λ values took. c.pass_zeros.ensures.yes c.if-pass_zeros.true values took) many (zeros_took left (g.B.Bits.as_reader c.loop-done.bits) here.2.all.live)

pub returns-then-pass_zeros-clause-keeps : goal.returns-then-pass_zeros-clause-keeps
returns-then-pass_zeros-clause-keeps g c = λ before t. let h = c.loop-done.invariant before t in (h.0 ++ replicate (c.args.count - c.loop-done.done) 0, c.pass_zeros.ensures.yes c.if-pass_zeros.true h.0 h.1)
