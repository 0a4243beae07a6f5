use Rattle.std.proofs.Common.{◌-◌, ◌++◌, length, arith}
use Rattle.std.proofs.Math.ListN.{replicate}
use Rattle.std.proofs.lemmas.Result.{err_from_is_err_and}
use Rattle.bit_scan.specs.Json.{joined, joined_from, number_json}
use Rattle.bit_scan.proofs.Batches.{items_parts, parts_long}
use Rattle.bit_scan.proofs.Parted.{no_first, no_second, no_third, fourth}
use Rattle.bit_scan.proofs.telling.write_json_parts.Goals as goal

pub returns-in_err-write_json_wide : goal.returns-in_err-write_json_wide
returns-in_err-write_json_wide g c =
    let vs = c.args.values.now in
    let parts = c.parts-parts.result in
    let recent = c.len.result - length parts.recent.now in
    let zeros = recent - parts.zeros in
    let bytes = zeros - length parts.bytes.now in
    let all = parts_long vs parts.wide parts.bytes.now parts.zeros parts.recent.now c.parts-parts.ensures in
    let are = items_parts vs parts.wide parts.bytes.now parts.zeros parts.recent.now bytes zeros recent c.parts-parts.ensures (omega (arith, all, c.len.ensures)) (omega (arith, all, c.len.ensures)) (omega (arith, all, c.len.ensures)) in
    let p = err_from_is_err_and c.from_residual.result c.from_residual.ensures.1 in
    rw (p.1, p.2)
    (no_first (joined number_json vs) (joined number_json parts.wide) (joined_from number_json bytes parts.bytes.now) (joined_from number_json zeros (replicate parts.zeros 0) ++ joined_from number_json recent parts.recent.now) c.args.printer.now c.write_json_wide.new.printer c.in_err-write_json_wide.field-0.0 are c.in_err-write_json_wide.ensures)

pub returns-in_err-write_json_bytes : goal.returns-in_err-write_json_bytes
returns-in_err-write_json_bytes g c =
    let vs = c.args.values.now in
    let parts = c.parts-parts.result in
    let recent = c.len.result - length parts.recent.now in
    let zeros = recent - parts.zeros in
    let bytes = zeros - length parts.bytes.now in
    let all = parts_long vs parts.wide parts.bytes.now parts.zeros parts.recent.now c.parts-parts.ensures in
    let are = items_parts vs parts.wide parts.bytes.now parts.zeros parts.recent.now bytes zeros recent c.parts-parts.ensures (omega (arith, all, c.len.ensures)) (omega (arith, all, c.len.ensures)) (omega (arith, all, c.len.ensures)) in
    let p = err_from_is_err_and c.from_residual-in_err-write_json_bytes.result c.from_residual-in_err-write_json_bytes.ensures.1 in
    rw (p.1, p.2)
    (no_second (joined number_json vs) (joined number_json parts.wide) (joined_from number_json bytes parts.bytes.now) (joined_from number_json zeros (replicate parts.zeros 0) ++ joined_from number_json recent parts.recent.now) c.args.printer.now c.write_json_wide.new.printer c.write_json_bytes.new.printer c.in_err-write_json_bytes.field-0.0 are c.in_ok-write_json_wide.ensures c.in_err-write_json_bytes.ensures)

pub returns-in_err-write_json_zeros : goal.returns-in_err-write_json_zeros
returns-in_err-write_json_zeros g c =
    let vs = c.args.values.now in
    let parts = c.parts-parts.result in
    let recent = c.len.result - length parts.recent.now in
    let zeros = recent - parts.zeros in
    let bytes = zeros - length parts.bytes.now in
    let all = parts_long vs parts.wide parts.bytes.now parts.zeros parts.recent.now c.parts-parts.ensures in
    let are = items_parts vs parts.wide parts.bytes.now parts.zeros parts.recent.now bytes zeros recent c.parts-parts.ensures (omega (arith, all, c.len.ensures)) (omega (arith, all, c.len.ensures)) (omega (arith, all, c.len.ensures)) in
    let p = err_from_is_err_and c.from_residual-in_err-write_json_zeros.result c.from_residual-in_err-write_json_zeros.ensures.1 in
    rw (p.1, p.2)
    (no_third (joined number_json vs) (joined number_json parts.wide) (joined_from number_json bytes parts.bytes.now) (joined_from number_json zeros (replicate parts.zeros 0)) (joined_from number_json recent parts.recent.now) c.args.printer.now c.write_json_wide.new.printer c.write_json_bytes.new.printer c.write_json_zeros.new.printer c.in_err-write_json_zeros.field-0.0 are c.in_ok-write_json_wide.ensures c.in_ok-write_json_bytes.ensures c.in_err-write_json_zeros.ensures)

pub returns : goal.returns
returns g c =
    let vs = c.args.values.now in
    let parts = c.parts-parts.result in
    let recent = c.len.result - length parts.recent.now in
    let zeros = recent - parts.zeros in
    let bytes = zeros - length parts.bytes.now in
    let all = parts_long vs parts.wide parts.bytes.now parts.zeros parts.recent.now c.parts-parts.ensures in
    let are = items_parts vs parts.wide parts.bytes.now parts.zeros parts.recent.now bytes zeros recent c.parts-parts.ensures (omega (arith, all, c.len.ensures)) (omega (arith, all, c.len.ensures)) (omega (arith, all, c.len.ensures)) in
    fourth (joined number_json vs) (joined number_json parts.wide) (joined_from number_json bytes parts.bytes.now) (joined_from number_json zeros (replicate parts.zeros 0)) (joined_from number_json recent parts.recent.now) c.args.printer.now c.write_json_wide.new.printer c.write_json_bytes.new.printer c.write_json_zeros.new.printer c.write_json_numbers.new.printer c.write_json_numbers.result are c.in_ok-write_json_wide.ensures c.in_ok-write_json_bytes.ensures c.in_ok-write_json_zeros.ensures c.write_json_numbers.ensures
