use Rattle.std.proofs.lemmas.Result.{err_from_is_err_and}
use Rattle.bit_abbrev.proofs.ShortOps.{short_took, short_missed}
use Rattle.bit_abbrev.proofs.definition.read_operand.Goals as goal

pub returns-in_err-fixed-clause-takes : goal.returns-in_err-fixed-clause-takes
returns-in_err-fixed-clause-takes g c =
    let failed = err_from_is_err_and c.from_residual.result c.from_residual.ensures.1 in
    rw (failed.1, failed.2) (short_missed c.args.shapes c.args.place c.args.after c.in-Some.bits c.in-Some-short_op.short c.args.reader.now c.in_err-fixed.field-0.0 c.fixed.new.self c.in-Some.ensures c.in-Some-short_op.ensures c.in_err-fixed.ensures.takes)

pub returns-in-Some-short_op-clause-takes : goal.returns-in-Some-short_op-clause-takes
returns-in-Some-short_op-clause-takes g c =
    short_took c.args.shapes c.args.place c.args.after c.in-Some.bits c.in-Some-short_op.short c.args.reader.now c.in_ok-fixed.field-0 c.fixed.new.self c.in-Some.ensures c.in-Some-short_op.ensures c.in_ok-fixed.ensures.takes
