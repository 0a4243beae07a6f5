use Rattle.std.proofs.Common.{◌+◌, get_or, drop}
use Rattle.std.specs.Prelude.{flat_map}
use Rattle.std.proofs.lemmas.Result.{err_from_is_err_and}
use Rattle.bit_grammar.specs.declared.op.Op.TheVariants.{Literal}
use Rattle.bit_scan.proofs.Parted.{further_text, next_part, last_part}
use Rattle.bit_scan.proofs.Prints.{goes_starts, goes_on, goes_wrong}
use Rattle.bit_scan.proofs.telling.write_further_operands.Goals as goal

pub loop-op-init : goal.loop-op-init
loop-op-init g c = goes_starts (flat_map further_text c.args.ops.now) c.args.printer.now

pub returns-in_err-further_operand : goal.returns-in_err-further_operand
returns-in_err-further_operand g c =
    let ops = c.args.ops.now in
    let i = c.loop-op.op-index in
    let p = err_from_is_err_and c.from_residual.result c.from_residual.ensures.1 in
    rw (p.1, p.2)
    (goes_wrong (flat_map further_text ops) c.args.printer.now (further_text (get_or ops i (Literal 0))) (flat_map further_text (drop (i + 1) ops)) c.loop-op.printer c.further_operand.new.self c.in_err-further_operand.field-0.0 (next_part further_text (flat_map further_text ops) c.args.printer.now c.loop-op.printer ops i (Literal 0) c.loop-op-test.true c.loop-op.invariant) c.in_err-further_operand.ensures)

pub loop-op-preserved : goal.loop-op-preserved
loop-op-preserved g c =
    let ops = c.args.ops.now in
    let i = c.loop-op.op-index in
    goes_on (flat_map further_text ops) c.args.printer.now (further_text (get_or ops i (Literal 0))) (flat_map further_text (drop (i + 1) ops)) c.loop-op.printer c.further_operand.new.self (next_part further_text (flat_map further_text ops) c.args.printer.now c.loop-op.printer ops i (Literal 0) c.loop-op-test.true c.loop-op.invariant) c.in_ok-further_operand.ensures

pub returns : goal.returns
returns g c = last_part further_text (flat_map further_text c.args.ops.now) c.args.printer.now c.loop-op.printer c.args.ops.now c.loop-op.op-index c.loop-op-test.false c.loop-op.invariant
