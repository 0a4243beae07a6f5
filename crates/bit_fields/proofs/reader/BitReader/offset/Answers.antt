use Rattle.std.proofs.Common.{ap}
use Rattle.std.proofs.lemmas.Result.{err_from_is_err_and}
use Rattle.bit_fields.specs.Reader.{Reader}
use Rattle.bit_fields.proofs.Starting.{offset_missed, offset_wrong, offset_took}
use Rattle.bit_fields.proofs.reader.BitReader.offset.Goals as goal

pub returns-in_err-offset-clause-takes : goal.returns-in_err-offset-clause-takes
returns-in_err-offset-clause-takes g c =
    let p = err_from_is_err_and c.from_residual.result c.from_residual.ensures.1 in
    rw (p.1, p.2) (offset_missed c.args.self.now c.in_err-offset.field-0.0 c.fixed.new.self c.in_err-offset.ensures.takes)

pub returns-in_err-judge-clause-takes : goal.returns-in_err-judge-clause-takes
returns-in_err-judge-clause-takes g c =
    let p = err_from_is_err_and c.from_residual-in_err-judge.result c.from_residual-in_err-judge.ensures.1 in
    rw (p.1, p.2) (offset_wrong c.args.self.now c.in_ok-offset.offset c.fixed.new.self c.in_err-judge.field-0.0 c.self.inside.position c.judge.new.self (ap (λ (r : Reader). r.position) c.self.view_is) c.in_ok-offset.ensures.takes (rw c.is_lawful.ensures at c.in_err-judge.ensures.takes))

pub returns-clause-takes : goal.returns-clause-takes
returns-clause-takes g c = offset_took c.args.self.now c.in_ok-offset.offset c.fixed.new.self c.self.inside.position c.judge.new.self (ap (λ (r : Reader). r.position) c.self.view_is) c.in_ok-offset.ensures.takes (rw c.is_lawful.ensures at c.in_ok-judge.ensures.takes)
