use Rattle.std.proofs.Common.{[], ◌∷◌, ◌++◌}
use Rattle.std.proofs.lemmas.Result.{err_from_is_err_and}
use Rattle.bit_abbrev.proofs.Operands.{begin, go_on, fails, refused, is_done, all_definable}
use Rattle.bit_abbrev.proofs.definition.read_operands.Goals as goal

pub loop-i-init : goal.loop-i-init
loop-i-init g c = ([], c.requires.none, begin c.args.shapes c.args.count c.args.reader.now c.requires.live)

pub returns-in_err-op : goal.returns-in_err-op
returns-in_err-op g c =
    let failed = err_from_is_err_and c.from_residual.result c.from_residual.ensures.1 in
    let ops = c.loop-i.invariant.0 in
    (ops, c.loop-i.invariant.1, rw (failed.1, failed.2) (tt, fails c.args.shapes c.args.count c.args.reader.now c.loop-i.i c.loop-i.place c.loop-i.reader ops c.in_err-op.field-0.0 c.read_operand.new.reader c.loop-i-test.true c.loop-i.invariant.2 c.in_err-op.ensures.takes))

pub returns-in-Err : goal.returns-in-Err
returns-in-Err g c =
    let ops = c.loop-i.invariant.0 in
    (ops, c.in-Err.ensures.err c.args.list.now ops c.loop-i.invariant.1, (tt, rw (c.fail.ensures.fault, c.fail.ensures.failed) (refused c.args.shapes c.args.count c.args.reader.now c.loop-i.i c.loop-i.place c.loop-i.reader ops c.in_ok-op.op c.read_operand.new.reader c.loop-i.invariant.2 c.in_ok-op.ensures.takes)))

pub loop-i-preserved : goal.loop-i-preserved
loop-i-preserved g c =
    let ops = c.loop-i.invariant.0 in
    (ops ++ c.in_ok-op.op ∷ [], c.in-Ok.ensures.ok c.args.list.now ops c.loop-i.invariant.1, rw c.place_after-place.ensures (go_on c.args.shapes c.args.count c.args.reader.now c.loop-i.i c.loop-i.place c.loop-i.reader ops c.in_ok-op.op c.read_operand.new.reader c.loop-i-test.true c.loop-i.invariant.2 c.in_ok-op.ensures.takes c.in_ok-op.ensures.lawful))

pub returns : goal.returns
returns g c =
    let ops = c.loop-i.invariant.0 in
    (ops, c.loop-i.invariant.1, (all_definable c.args.shapes c.args.count c.args.reader.now c.loop-i.i c.loop-i.place c.loop-i.reader ops c.requires.some c.loop-i-test.false c.loop-i.invariant.2, is_done c.args.shapes c.args.count c.args.reader.now c.loop-i.i c.loop-i.place c.loop-i.reader ops c.loop-i-test.false c.loop-i.invariant.2))
