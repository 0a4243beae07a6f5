use Rattle.std.proofs.Common.{◌<◌, ◌+◌, arith}
use Rattle.std.proofs.lemmas.Result.{err_from_is_err_and}
use Rattle.bit_grammar.specs.Record.{scalar}
use Rattle.bit_abbrev.proofs.Missing.{far_full}
use Rattle.bit_abbrev.proofs.Several.{far_goes_by, far_fails_by}
use Rattle.bit_abbrev.proofs.Taking.{far_ends, far_fails, far_goes_on}
use Rattle.bit_abbrev.proofs.record.read_runs.Goals as goal

pub returns-in_err-done-clause-adds : goal.returns-in_err-done-clause-adds
returns-in_err-done-clause-adds g c =
    let failed = err_from_is_err_and c.from_residual.result c.from_residual.ensures.1 in
    rw (failed.1, failed.2) (λ fault stands before t. far_fails_by g.V.ValueTaker.took c.loop-done.values c.some.new.values (scalar c.args.element) c.args.count (g.B.Bits.as_reader c.args.bits.now) before c.loop-done.done (g.B.Bits.as_reader c.loop-done.bits) fault (g.B.Bits.as_reader c.some.new.self) (c.loop-done.invariant.gains before t) (c.in_err-done.ensures.adds fault stands))

pub returns-in_err-value-clause-adds : goal.returns-in_err-value-clause-adds
returns-in_err-value-clause-adds g c =
    let failed = err_from_is_err_and c.from_residual-in_err-value.result c.from_residual-in_err-value.ensures.1 in
    let less : c.loop-done.done + c.in_ok-done.field-0 < c.args.count = omega (arith, c.if-done-count.false, c.in_ok-done.ensures.most) in
    rw (failed.1, failed.2) (λ fault stands before t.
    let h = far_goes_by g.V.ValueTaker.took c.loop-done.values c.some.new.values (scalar c.args.element) c.args.count (g.B.Bits.as_reader c.args.bits.now) before c.loop-done.done (g.B.Bits.as_reader c.loop-done.bits) c.in_ok-done.field-0 (g.B.Bits.as_reader c.some.new.self) c.in_ok-done.ensures.most (c.loop-done.invariant.gains before t) c.in_ok-done.ensures.adds in
    far_fails g.V.ValueTaker.took c.some.new.values (scalar c.args.element) c.args.count (g.B.Bits.as_reader c.args.bits.now) before (c.loop-done.done + c.in_ok-done.field-0) (g.B.Bits.as_reader c.some.new.self) fault (g.B.Bits.as_reader c.one.new.self) less h (c.in_err-value.ensures.takes fault stands))

pub returns-in_err-keep-clause-adds : goal.returns-in_err-keep-clause-adds
returns-in_err-keep-clause-adds g c =
    let failed = err_from_is_err_and c.from_residual-in_err-keep.result c.from_residual-in_err-keep.ensures.1 in
    rw (failed.1, failed.2) (λ fault stands before t.
    let h = far_goes_by g.V.ValueTaker.took c.loop-done.values c.some.new.values (scalar c.args.element) c.args.count (g.B.Bits.as_reader c.args.bits.now) before c.loop-done.done (g.B.Bits.as_reader c.loop-done.bits) c.in_ok-done.field-0 (g.B.Bits.as_reader c.some.new.self) c.in_ok-done.ensures.most (c.loop-done.invariant.gains before t) c.in_ok-done.ensures.adds in
    far_full g.V.ValueTaker.took c.some.new.values c.keep.new.values (scalar c.args.element) c.args.count (g.B.Bits.as_reader c.args.bits.now) before (c.loop-done.done + c.in_ok-done.field-0) (g.B.Bits.as_reader c.some.new.self) c.in_ok-value.value (g.B.Bits.as_reader c.one.new.self) fault (g.B.Bits.as_reader c.keep.new.bits) h c.in_ok-value.ensures.takes c.in_err-keep.ensures.same (c.in_err-keep.ensures.err fault stands))

pub loop-done-preserved : goal.loop-done-preserved
loop-done-preserved g c =
    let less : c.loop-done.done + c.in_ok-done.field-0 < c.args.count = omega (arith, c.if-done-count.false, c.in_ok-done.ensures.most) in
    rw c.in_ok-keep.ensures.ok.0 (record {
      most = omega (arith, less);
      live = c.in_ok-value.ensures.takes.live;
      gains = λ before t.
          let h = far_goes_by g.V.ValueTaker.took c.loop-done.values c.some.new.values (scalar c.args.element) c.args.count (g.B.Bits.as_reader c.args.bits.now) before c.loop-done.done (g.B.Bits.as_reader c.loop-done.bits) c.in_ok-done.field-0 (g.B.Bits.as_reader c.some.new.self) c.in_ok-done.ensures.most (c.loop-done.invariant.gains before t) c.in_ok-done.ensures.adds in
          far_goes_on g.V.ValueTaker.took c.some.new.values c.keep.new.values (scalar c.args.element) c.args.count (g.B.Bits.as_reader c.args.bits.now) before (c.loop-done.done + c.in_ok-done.field-0) (g.B.Bits.as_reader c.some.new.self) c.in_ok-value.value (g.B.Bits.as_reader c.one.new.self) less h c.in_ok-value.ensures.takes c.in_ok-keep.ensures.ok.1;
    })

pub returns-then-done-count-clause-adds : goal.returns-then-done-count-clause-adds
returns-then-done-count-clause-adds g c = λ before t.
    let h = far_goes_by g.V.ValueTaker.took c.loop-done.values c.some.new.values (scalar c.args.element) c.args.count (g.B.Bits.as_reader c.args.bits.now) before c.loop-done.done (g.B.Bits.as_reader c.loop-done.bits) c.in_ok-done.field-0 (g.B.Bits.as_reader c.some.new.self) c.in_ok-done.ensures.most (c.loop-done.invariant.gains before t) c.in_ok-done.ensures.adds in
    far_ends g.V.ValueTaker.took c.some.new.values (scalar c.args.element) c.args.count (g.B.Bits.as_reader c.args.bits.now) before (c.loop-done.done + c.in_ok-done.field-0) (g.B.Bits.as_reader c.some.new.self) (omega (arith, c.if-done-count.true)) (omega (arith, c.if-done-count.true)) h
