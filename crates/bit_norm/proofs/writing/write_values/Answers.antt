use Rattle.std.proofs.Common.{◌+◌, get_or, drop, arith}
use Rattle.std.proofs.lemmas.Result.{err_from_is_err_and}
use Rattle.bit_grammar.specs.FormatFields.{shortest}
use Rattle.bit_grammar.specs.Normal.{put, values_bits}
use Rattle.bit_norm.proofs.Going.{goes_starts, goes_on, goes_wrong, goes_ends}
use Rattle.bit_norm.proofs.Texts.{next_value, no_value}
use Rattle.bit_norm.proofs.writing.write_values.Goals as goal

pub loop-value-init : goal.loop-value-init
loop-value-init g c = goes_starts (put (values_bits c.args.values.now)) c.args.writer.now c.requires

pub vbr-requires-clause-position : goal.vbr-requires-clause-position
vbr-requires-clause-position g c = omega (arith, c.loop-value.invariant.room.fits)

pub returns-in_err-vbr : goal.returns-in_err-vbr
returns-in_err-vbr g c =
    let vs = c.args.values.now in
    let i = c.loop-value.value-index in
    let p = err_from_is_err_and c.from_residual.result c.from_residual.ensures.1 in
    rw (p.1, p.2) (goes_wrong (values_bits vs) c.args.writer.now (put (shortest 6 (get_or vs i 0))) (put (values_bits (drop (i + 1) vs))) c.loop-value.writer c.vbr.new.self c.in_err-vbr.field-0.0 (next_value _ _ _ vs i c.loop-value-test.true c.loop-value.invariant) c.in_err-vbr.ensures.writes)

pub loop-value-preserved : goal.loop-value-preserved
loop-value-preserved g c =
    let vs = c.args.values.now in
    let i = c.loop-value.value-index in
    goes_on (values_bits vs) c.args.writer.now (put (shortest 6 (get_or vs i 0))) (put (values_bits (drop (i + 1) vs))) c.loop-value.writer c.vbr.new.self (next_value _ _ _ vs i c.loop-value-test.true c.loop-value.invariant) c.in_ok-vbr.ensures.writes

pub returns : goal.returns
returns g c =
    let vs = c.args.values.now in
    let i = c.loop-value.value-index in
    goes_ends (values_bits vs) c.args.writer.now (put (values_bits (drop i vs))) c.loop-value.writer (no_value vs i c.loop-value-test.false) c.loop-value.invariant
