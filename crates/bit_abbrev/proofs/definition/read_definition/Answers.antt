use Rattle.std.proofs.lemmas.Result.{err_from_is_err_and}
use Rattle.bit_abbrev.proofs.definition.read_definition.Goals as goal

pub returns-in_err-count : goal.returns-in_err-count
returns-in_err-count g c =
    let failed = err_from_is_err_and c.from_residual.result c.from_residual.ensures.1 in
    rw (failed.1, failed.2) (c.in_err-count.ensures.takes c.args.shapes)

pub returns : goal.returns
returns g c = c.in_ok-count.ensures.takes c.args.shapes c.read_ops.result c.read_ops.new.reader c.read_ops.ensures
