use Rattle.std.proofs.Common.{ap}
use Rattle.bit_fields.specs.Devices.{Incoming}
use Rattle.bit_c.proofs.Making.{not_reported}
use Rattle.bit_c.proofs.texts.report_of.Goals as goal

pub returns-in-Err : goal.returns-in-Err
returns-in-Err c =
    not_reported c.args.keys c.args.limits _ _ c.args.bytes.now _ _ c.write_report_with_hasher-answer.result.0 c.in-Err.fault c.of.result _ (ap (λ (i : Incoming). i.to_come) c.new-source.ensures) c.in-Err.is c.of.ensures c.write_report_with_hasher-answer.ensures
