use Rattle.std.proofs.Common.{[], ◌∷◌, ◌++◌, length, arith, replicate}
use Rattle.std.proofs.lemmas.List.{length-replicate}
use Rattle.std.proofs.lemmas.Result.{err_from_is_err_and}
use Rattle.bit_grammar.specs.FormatDefinition.{op_at}
use Rattle.bit_abbrev.specs.Values.{AddsFirst, Gains, PassesFirst}
use Rattle.bit_abbrev.proofs.Missing.{answers_so}
use Rattle.bit_abbrev.proofs.Records.{skipped, from_begins, from_goes_on, from_fails, from_refused, from_done}
use Rattle.bit_abbrev.proofs.record.read_singles.Goals as goal

pub returns-then-pass-clause-adds : goal.returns-then-pass-clause-adds
returns-then-pass-clause-adds g c = λ room tail.
    let a = g.B.Bits.as_reader c.args.bits.now in
    let d = g.B.Bits.as_reader c.skip_singles.new.bits in
    answers_so g.B.Bits.faults (PassesFirst room c.args.ops.now tail a d) (λ r. Gains g.V.ValueTaker.took c.args.values.now c.pass.new.self (AddsFirst room c.args.ops.now tail a r d)) c.skip_singles.result
    (λ r. skipped g.V.ValueTaker.took c.args.values.now c.pass.new.self room c.args.ops.now tail a d r (c.pass.ensures.yes c.if-pass.true))
    (c.skip_singles.ensures room tail)

pub returns-then-pass-clause-keeps : goal.returns-then-pass-clause-keeps
returns-then-pass-clause-keeps g c = λ before t. (before ++ replicate (length c.args.ops.now) 0, c.pass.ensures.yes c.if-pass.true before (replicate (length c.args.ops.now) 0) t (length-replicate (length c.args.ops.now) 0))

pub loop-op-init : goal.loop-op-init
loop-op-init g c = record {
  live = c.requires.live;
  far = λ room tail before t. (before, c.pass.ensures.no c.if-pass.false before t, from_begins room c.args.ops.now tail (g.B.Bits.as_reader c.args.bits.now) before c.requires.live);
}

pub returns-in_err-value-clause-adds : goal.returns-in_err-value-clause-adds
returns-in_err-value-clause-adds g c =
    let failed = err_from_is_err_and c.from_residual.result c.from_residual.ensures.1 in
    rw (failed.1, failed.2) (λ room tail fault stands before t.
    let h = c.loop-op.invariant.far room tail before t in
    (h.0, h.1, from_fails room c.args.ops.now tail (g.B.Bits.as_reader c.args.bits.now) c.loop-op.op-index (g.B.Bits.as_reader c.loop-op.bits) before h.0 fault (g.B.Bits.as_reader c.read_scalar.new.bits) c.requires.single c.loop-op-test.true h.2 (c.in_err-value.ensures.takes fault stands)))

pub returns-in_err-value-clause-keeps : goal.returns-in_err-value-clause-keeps
returns-in_err-value-clause-keeps g c = λ before t. let h = c.loop-op.invariant.far 0 [] before t in (h.0, h.1)

pub returns-in_err-keep-clause-adds : goal.returns-in_err-keep-clause-adds
returns-in_err-keep-clause-adds g c =
    let failed = err_from_is_err_and c.from_residual-in_err-keep.result c.from_residual-in_err-keep.ensures.1 in
    rw (failed.1, failed.2) (λ room tail fault stands before t.
    let h = c.loop-op.invariant.far room tail before t in
    let full = c.in_err-keep.ensures.err fault stands in
    rw (full.0, full.1) (h.0, c.in_err-keep.ensures.same h.0 h.1, from_refused room c.args.ops.now tail (g.B.Bits.as_reader c.args.bits.now) c.loop-op.op-index (g.B.Bits.as_reader c.loop-op.bits) before h.0 (op_at c.args.ops.now c.loop-op.op-index) c.in_ok-value.value (g.B.Bits.as_reader c.read_scalar.new.bits) h.2 c.in_ok-value.ensures.takes))

pub returns-in_err-keep-clause-keeps : goal.returns-in_err-keep-clause-keeps
returns-in_err-keep-clause-keeps g c = λ before t. let h = c.loop-op.invariant.far 0 [] before t in (h.0, c.in_err-keep.ensures.same h.0 h.1)

pub loop-op-preserved : goal.loop-op-preserved
loop-op-preserved g c =
    rw c.in_ok-keep.ensures.ok.0 (record {
      live = c.in_ok-value.ensures.takes.live;
      far = λ room tail before t.
          let h = c.loop-op.invariant.far room tail before t in
          (h.0 ++ c.in_ok-value.value ∷ [], c.in_ok-keep.ensures.ok.1 h.0 h.1, from_goes_on room c.args.ops.now tail (g.B.Bits.as_reader c.args.bits.now) c.loop-op.op-index (g.B.Bits.as_reader c.loop-op.bits) before h.0 c.in_ok-value.value (g.B.Bits.as_reader c.read_scalar.new.bits) c.requires.single c.loop-op-test.true h.2 c.in_ok-value.ensures.takes);
    })

pub returns-clause-adds : goal.returns-clause-adds
returns-clause-adds g c = λ room tail before t.
    let h = c.loop-op.invariant.far room tail before t in
    (h.0, h.1, from_done room c.args.ops.now tail (g.B.Bits.as_reader c.args.bits.now) c.loop-op.op-index (g.B.Bits.as_reader c.loop-op.bits) before h.0 c.loop-op-test.false (omega arith) h.2)

pub returns-clause-keeps : goal.returns-clause-keeps
returns-clause-keeps g c = λ before t. let h = c.loop-op.invariant.far 0 [] before t in (h.0, h.1)
