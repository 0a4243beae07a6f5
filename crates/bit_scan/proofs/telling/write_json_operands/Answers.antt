use Rattle.std.proofs.Common.{◌+◌, ◌++◌, get_or, drop, arith}
use Rattle.std.proofs.lemmas.Result.{err_from_is_err_and}
use Rattle.bit_grammar.specs.declared.op.Op.TheVariants.{Literal}
use Rattle.bit_scan.specs.Json.{comma, joined, joined_from, op_json}
use Rattle.bit_scan.proofs.Joined.{next_item, last_item}
use Rattle.bit_scan.proofs.Prints.{goes_starts, goes_on, goes_wrong}
use Rattle.bit_scan.proofs.telling.write_json_operands.Goals as goal

pub loop-place-init : goal.loop-place-init
loop-place-init g c = goes_starts (joined op_json c.args.ops.now) c.args.printer.now

pub returns-in_err-op_item : goal.returns-in_err-op_item
returns-in_err-op_item g c =
    let ops = c.args.ops.now in
    let i = c.loop-place.place in
    let p = err_from_is_err_and c.from_residual.result c.from_residual.ensures.1 in
    rw (p.1, p.2)
    (goes_wrong (joined op_json ops) c.args.printer.now (comma i ++ op_json (get_or ops i (Literal 0))) (joined_from op_json (i + 1) (drop (i + 1) ops)) c.loop-place.printer c.op_item.new.self c.in_err-op_item.field-0.0 (next_item op_json (joined op_json ops) c.args.printer.now c.loop-place.printer ops i (Literal 0) (omega arith) c.loop-place.invariant) c.in_err-op_item.ensures)

pub loop-place-preserved : goal.loop-place-preserved
loop-place-preserved g c =
    let ops = c.args.ops.now in
    let i = c.loop-place.place in
    goes_on (joined op_json ops) c.args.printer.now (comma i ++ op_json (get_or ops i (Literal 0))) (joined_from op_json (i + 1) (drop (i + 1) ops)) c.loop-place.printer c.op_item.new.self (next_item op_json (joined op_json ops) c.args.printer.now c.loop-place.printer ops i (Literal 0) (omega arith) c.loop-place.invariant) c.in_ok-op_item.ensures

pub returns : goal.returns
returns g c = last_item op_json (joined op_json c.args.ops.now) c.args.printer.now c.loop-place.printer c.args.ops.now c.loop-place.place c.loop-place.place (omega arith) c.loop-place.invariant
