use Rattle.std.proofs.Common.{◌++◌, take}
use Rattle.std.proofs.lemmas.Result.{err_from_is_err_and}
use Rattle.bit_norm.proofs.form_values.FormValues.take_few.Goals as goal

pub returns-in_err-take-clause-err : goal.returns-in_err-take-clause-err
returns-in_err-take-clause-err c =
    let p = err_from_is_err_and c.from_residual.result c.from_residual.ensures.1 in
    let some = take c.loop-byte.byte-index c.args.bytes.now in
    rw p.1 (λ values had. (some, c.in_err-take.ensures.err (values ++ some) (c.loop-byte.invariant values had)))
