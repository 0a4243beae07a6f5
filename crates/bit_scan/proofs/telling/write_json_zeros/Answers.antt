use Rattle.std.proofs.Common.{◌+◌, ◌-◌, ◌++◌, arith}
use Rattle.std.proofs.Math.ListN.{replicate}
use Rattle.std.proofs.lemmas.Result.{err_from_is_err_and}
use Rattle.bit_scan.specs.Json.{comma, joined_from, number_json}
use Rattle.bit_scan.proofs.Batches.{zeros_start, next_zero_item, last_zero_item}
use Rattle.bit_scan.proofs.Prints.{goes_on, goes_wrong}
use Rattle.bit_scan.proofs.telling.write_json_zeros.Goals as goal

pub loop-index-init : goal.loop-index-init
loop-index-init g c = zeros_start c.args.first c.args.count c.args.printer.now

pub returns-in_err-number_item : goal.returns-in_err-number_item
returns-in_err-number_item g c =
    let k = c.args.first in
    let all = joined_from number_json k (replicate c.args.count 0) in
    let i = c.loop-index.index in
    let part = comma (k + i) ++ number_json 0 in
    let rest = joined_from number_json (k + (i + 1)) (replicate (c.args.count - (i + 1)) 0) in
    let next = next_zero_item k c.args.count all c.args.printer.now c.loop-index.printer i (omega arith) c.loop-index.invariant in
    let p = err_from_is_err_and c.from_residual.result c.from_residual.ensures.1 in
    rw (p.1, p.2) (goes_wrong all c.args.printer.now part rest c.loop-index.printer c.number_item.new.self c.in_err-number_item.field-0.0 next c.in_err-number_item.ensures)

pub loop-index-preserved : goal.loop-index-preserved
loop-index-preserved g c =
    let k = c.args.first in
    let all = joined_from number_json k (replicate c.args.count 0) in
    let i = c.loop-index.index in
    let part = comma (k + i) ++ number_json 0 in
    let rest = joined_from number_json (k + (i + 1)) (replicate (c.args.count - (i + 1)) 0) in
    let next = next_zero_item k c.args.count all c.args.printer.now c.loop-index.printer i (omega arith) c.loop-index.invariant in
    goes_on all c.args.printer.now part rest c.loop-index.printer c.number_item.new.self next c.in_ok-number_item.ensures

pub returns : goal.returns
returns g c = last_zero_item (c.args.first + c.loop-index.index) c.args.count (joined_from number_json c.args.first (replicate c.args.count 0)) c.args.printer.now c.loop-index.printer c.loop-index.index (omega arith) c.loop-index.invariant
