use Rattle.std.proofs.Common.{ap}
use Rattle.std.proofs.lemmas.Result.{err_from_is_err_and}
use Rattle.bit_fields.specs.Reader.{Reader}
use Rattle.bit_fields.proofs.Starting.{inner_missed, inner_wrong, inner_took}
use Rattle.bit_fields.proofs.reader.BitReader.inner_magic.Goals as goal

pub returns-in_err-magic-clause-takes : goal.returns-in_err-magic-clause-takes
returns-in_err-magic-clause-takes g c =
    let p = err_from_is_err_and c.from_residual.result c.from_residual.ensures.1 in
    rw (p.1, p.2) (inner_missed c.args.self.now c.in_err-magic.field-0.0 c.fixed.new.self c.in_err-magic.ensures.takes)

pub returns-in_err-judge-clause-takes : goal.returns-in_err-judge-clause-takes
returns-in_err-judge-clause-takes g c =
    let p = err_from_is_err_and c.from_residual-in_err-judge.result c.from_residual-in_err-judge.ensures.1 in
    rw (p.1, p.2) (inner_wrong c.args.self.now c.in_ok-magic.magic c.fixed.new.self c.in_err-judge.field-0.0 c.self.inside.position c.judge.new.self (ap (λ (r : Reader). r.position) c.self.view_is) c.in_ok-magic.ensures.takes c.in_err-judge.ensures.takes)

pub returns-clause-takes : goal.returns-clause-takes
returns-clause-takes g c = inner_took c.args.self.now c.in_ok-magic.magic c.fixed.new.self c.self.inside.position c.judge.new.self (ap (λ (r : Reader). r.position) c.self.view_is) c.in_ok-magic.ensures.takes c.in_ok-judge.ensures.takes
