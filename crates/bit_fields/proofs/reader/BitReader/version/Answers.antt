use Rattle.std.proofs.Common.{ap}
use Rattle.std.proofs.lemmas.Result.{err_from_is_err_and}
use Rattle.bit_fields.specs.Reader.{Reader}
use Rattle.bit_fields.proofs.Starting.{version_missed, version_took}
use Rattle.bit_fields.proofs.reader.BitReader.version.Goals as goal

pub returns-in_err-version-clause-takes : goal.returns-in_err-version-clause-takes
returns-in_err-version-clause-takes g c =
    let p = err_from_is_err_and c.from_residual.result c.from_residual.ensures.1 in
    rw (p.1, p.2) (version_missed c.args.self.now c.in_err-version.field-0.0 c.fixed.new.self c.in_err-version.ensures.takes)

pub returns-clause-takes : goal.returns-clause-takes
returns-clause-takes g c = version_took c.args.self.now c.in_ok-version.version c.fixed.new.self c.judge.result c.self.inside.position c.judge.new.self (ap (λ (r : Reader). r.position) c.self.view_is) c.in_ok-version.ensures.takes c.judge.ensures.takes
