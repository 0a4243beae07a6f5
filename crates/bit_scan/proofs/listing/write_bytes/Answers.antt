use Rattle.std.proofs.Common.{◌+◌, ◌-◌, take, drop, arith}
use Rattle.std.proofs.lemmas.Result.{err_from_is_err_and}
use Rattle.bit_grammar.specs.Texts.{values_text}
use Rattle.bit_scan.proofs.Batches.{next_values}
use Rattle.bit_scan.proofs.Parted.{value_text, last_part}
use Rattle.bit_scan.proofs.Prints.{goes_starts, goes_on, goes_wrong}
use Rattle.bit_scan.proofs.listing.write_bytes.Goals as goal

pub loop-place-init : goal.loop-place-init
loop-place-init g c = (omega arith, goes_starts (values_text c.args.bytes.now) c.args.printer.now)

pub returns-in_err-byte_values : goal.returns-in_err-byte_values
returns-in_err-byte_values g c =
    let vs = c.args.bytes.now in
    let i = c.loop-place.place in
    let j = i + c.min-count.result in
    let p = err_from_is_err_and c.from_residual.result c.from_residual.ensures.1 in
    rw (p.1, p.2)
    (goes_wrong (values_text vs) c.args.printer.now (values_text (take (j - i) (drop i vs))) (values_text (drop j vs)) c.loop-place.printer c.byte_values.new.self c.in_err-byte_values.field-0.0 (next_values (values_text vs) c.args.printer.now c.loop-place.printer vs i j (omega arith) c.loop-place.invariant.1) c.in_err-byte_values.ensures)

pub loop-place-preserved : goal.loop-place-preserved
loop-place-preserved g c =
    let vs = c.args.bytes.now in
    let i = c.loop-place.place in
    let j = i + c.min-count.result in
    (omega arith, goes_on (values_text vs) c.args.printer.now (values_text (take (j - i) (drop i vs))) (values_text (drop j vs)) c.loop-place.printer c.byte_values.new.self (next_values (values_text vs) c.args.printer.now c.loop-place.printer vs i j (omega arith) c.loop-place.invariant.1) c.in_ok-byte_values.ensures)

pub returns : goal.returns
returns g c = last_part value_text (values_text c.args.bytes.now) c.args.printer.now c.loop-place.printer c.args.bytes.now c.loop-place.place (omega arith) c.loop-place.invariant.1
