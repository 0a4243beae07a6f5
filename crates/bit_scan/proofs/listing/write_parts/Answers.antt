use Rattle.std.proofs.Common.{◌++◌}
use Rattle.std.proofs.Math.ListN.{replicate}
use Rattle.std.proofs.lemmas.Result.{err_from_is_err_and}
use Rattle.bit_grammar.specs.Texts.{values_text}
use Rattle.bit_scan.proofs.Parted.{no_first, no_second, no_third, fourth, values_parts}
use Rattle.bit_scan.proofs.listing.write_parts.Goals as goal

pub returns-in_err-write_wide : goal.returns-in_err-write_wide
returns-in_err-write_wide g c =
    let vs = c.args.values.now in
    let parts = c.parts-parts.result in
    let p = err_from_is_err_and c.from_residual.result c.from_residual.ensures.1 in
    rw (p.1, p.2)
    (no_first (values_text vs) (values_text parts.wide) (values_text parts.bytes.now) (values_text (replicate parts.zeros 0) ++ values_text parts.recent.now) c.args.printer.now c.write_wide.new.printer c.in_err-write_wide.field-0.0 (values_parts vs parts.wide parts.bytes.now parts.zeros parts.recent.now c.parts-parts.ensures) c.in_err-write_wide.ensures)

pub returns-in_err-write_bytes : goal.returns-in_err-write_bytes
returns-in_err-write_bytes g c =
    let vs = c.args.values.now in
    let parts = c.parts-parts.result in
    let p = err_from_is_err_and c.from_residual-in_err-write_bytes.result c.from_residual-in_err-write_bytes.ensures.1 in
    rw (p.1, p.2)
    (no_second (values_text vs) (values_text parts.wide) (values_text parts.bytes.now) (values_text (replicate parts.zeros 0) ++ values_text parts.recent.now) c.args.printer.now c.write_wide.new.printer c.write_bytes.new.printer c.in_err-write_bytes.field-0.0 (values_parts vs parts.wide parts.bytes.now parts.zeros parts.recent.now c.parts-parts.ensures) c.in_ok-write_wide.ensures c.in_err-write_bytes.ensures)

pub returns-in_err-write_zeros : goal.returns-in_err-write_zeros
returns-in_err-write_zeros g c =
    let vs = c.args.values.now in
    let parts = c.parts-parts.result in
    let p = err_from_is_err_and c.from_residual-in_err-write_zeros.result c.from_residual-in_err-write_zeros.ensures.1 in
    rw (p.1, p.2)
    (no_third (values_text vs) (values_text parts.wide) (values_text parts.bytes.now) (values_text (replicate parts.zeros 0)) (values_text parts.recent.now) c.args.printer.now c.write_wide.new.printer c.write_bytes.new.printer c.write_zeros.new.printer c.in_err-write_zeros.field-0.0 (values_parts vs parts.wide parts.bytes.now parts.zeros parts.recent.now c.parts-parts.ensures) c.in_ok-write_wide.ensures c.in_ok-write_bytes.ensures c.in_err-write_zeros.ensures)

pub returns : goal.returns
returns g c =
    let vs = c.args.values.now in
    let parts = c.parts-parts.result in
    fourth (values_text vs) (values_text parts.wide) (values_text parts.bytes.now) (values_text (replicate parts.zeros 0)) (values_text parts.recent.now) c.args.printer.now c.write_wide.new.printer c.write_bytes.new.printer c.write_zeros.new.printer c.write_numbers.new.printer c.write_numbers.result (values_parts vs parts.wide parts.bytes.now parts.zeros parts.recent.now c.parts-parts.ensures) c.in_ok-write_wide.ensures c.in_ok-write_bytes.ensures c.in_ok-write_zeros.ensures c.write_numbers.ensures
