use Rattle.std.proofs.lemmas.Result.{err_from_is_err_and}
use Rattle.bit_abbrev.proofs.Operands.{counted, empty, uncounted}
use Rattle.bit_abbrev.proofs.definition.read_count.Goals as goal

pub returns-in_err-count-clause-takes : goal.returns-in_err-count-clause-takes
returns-in_err-count-clause-takes g c = λ shapes.
    let failed = err_from_is_err_and c.from_residual.result c.from_residual.ensures.1 in
    rw (failed.1, failed.2) (uncounted shapes c.args.reader.now c.in_err-count.field-0.0 c.vbr.new.self c.in_err-count.ensures.takes)

pub returns-in_err-judge-clause-takes : goal.returns-in_err-judge-clause-takes
returns-in_err-judge-clause-takes g c = λ shapes.
    let failed = err_from_is_err_and c.from_residual-in_err-judge.result c.from_residual-in_err-judge.ensures.1 in
    rw (failed.1, failed.2) (empty shapes c.args.reader.now c.in_ok-count.count c.vbr.new.self c.position-first.result c.in_err-judge.field-0.0 c.judge.new.self c.position-first.ensures.position c.in_ok-count.ensures.takes c.in_err-judge.ensures.takes)

pub returns-clause-takes : goal.returns-clause-takes
returns-clause-takes g c = λ shapes.
    counted shapes c.args.reader.now c.in_ok-count.count c.vbr.new.self c.judge.new.self c.in_ok-count.ensures.takes c.in_ok-judge.ensures.holds c.in_ok-judge.ensures.same
