use Rattle.std.proofs.Common.{◌+◌, ◌++◌, length, ap, arith}
use Rattle.std.proofs.lemmas.Result.{err_from_is_err_and}
use Rattle.bit_scan.specs.Json.{comma, joined, joined_from, number_json}
use Rattle.bit_scan.proofs.Prints.{Goes, goes_as, goes_on, goes_wrong}
use Rattle.bit_scan.proofs.telling.write_json_wide.Goals as goal

pub loop-value-preserved : goal.loop-value-preserved
loop-value-preserved g c =
    let all = joined number_json c.args.values in
    let w = c.args.printer.now in
    let i = c.loop-value.place in
    let now = c.loop-value.printer in
    let part = comma i ++ number_json c.in-Some.value in
    let rest = joined_from number_json (i + 1) c.take_first.new.self in
    let next : Goes all w (part ++ rest) now = goes_as all w (joined_from number_json i c.loop-value.values) (part ++ rest) now (ap (joined_from number_json i) c.in-Some.ensures.some) c.loop-value.invariant.1 in
    (omega (arith, c.loop-value.invariant.0, ap length c.in-Some.ensures.some), goes_on all w part rest now c.number_item.new.self next c.in_ok-number_item.ensures)

pub returns-in_err-number_item : goal.returns-in_err-number_item
returns-in_err-number_item g c =
    let all = joined number_json c.args.values in
    let w = c.args.printer.now in
    let i = c.loop-value.place in
    let now = c.loop-value.printer in
    let part = comma i ++ number_json c.in-Some.value in
    let rest = joined_from number_json (i + 1) c.take_first.new.self in
    let next : Goes all w (part ++ rest) now = goes_as all w (joined_from number_json i c.loop-value.values) (part ++ rest) now (ap (joined_from number_json i) c.in-Some.ensures.some) c.loop-value.invariant.1 in
    let p = err_from_is_err_and c.from_residual.result c.from_residual.ensures.1 in
    rw (p.1, p.2) (goes_wrong all w part rest now c.number_item.new.self c.in_err-number_item.field-0.0 next c.in_err-number_item.ensures)
