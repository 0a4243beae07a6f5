use Rattle.std.proofs.Common.{◌+◌, ◌-◌, take, drop, arith}
use Rattle.std.proofs.lemmas.Result.{err_from_is_err_and}
use Rattle.bit_scan.specs.Json.{joined_from, number_json}
use Rattle.bit_scan.proofs.Batches.{items_start, next_items}
use Rattle.bit_scan.proofs.Joined.{last_item}
use Rattle.bit_scan.proofs.Prints.{goes_on, goes_wrong}
use Rattle.bit_scan.proofs.telling.write_json_numbers.Goals as goal

pub loop-place-init : goal.loop-place-init
loop-place-init g c = (omega arith, items_start c.args.first c.args.numbers.now c.args.printer.now)

pub returns-in_err-items : goal.returns-in_err-items
returns-in_err-items g c =
    let vs = c.args.numbers.now in
    let k = c.args.first in
    let i = c.loop-place.place in
    let j = i + c.min-count.result in
    let p = err_from_is_err_and c.from_residual.result c.from_residual.ensures.1 in
    rw (p.1, p.2)
    (goes_wrong (joined_from number_json k vs) c.args.printer.now (joined_from number_json (k + i) (take (j - i) (drop i vs))) (joined_from number_json (k + j) (drop j vs)) c.loop-place.printer c.items.new.self c.in_err-items.field-0.0 (next_items k (joined_from number_json k vs) c.args.printer.now c.loop-place.printer vs i j (omega arith) (omega arith) c.loop-place.invariant.1) c.in_err-items.ensures)

pub loop-place-preserved : goal.loop-place-preserved
loop-place-preserved g c =
    let vs = c.args.numbers.now in
    let k = c.args.first in
    let i = c.loop-place.place in
    let j = i + c.min-count.result in
    (omega arith, goes_on (joined_from number_json k vs) c.args.printer.now (joined_from number_json (k + i) (take (j - i) (drop i vs))) (joined_from number_json (k + j) (drop j vs)) c.loop-place.printer c.items.new.self (next_items k (joined_from number_json k vs) c.args.printer.now c.loop-place.printer vs i j (omega arith) (omega arith) c.loop-place.invariant.1) c.in_ok-items.ensures)

pub returns : goal.returns
returns g c = last_item number_json (joined_from number_json c.args.first c.args.numbers.now) c.args.printer.now c.loop-place.printer c.args.numbers.now (c.args.first + c.loop-place.place) c.loop-place.place (omega arith) c.loop-place.invariant.1
