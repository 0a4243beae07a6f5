use Rattle.std.proofs.Common.{ap}
use Rattle.bit_grammar.specs.Setting.{setting_of}
use Rattle.bit_fields.specs.Devices.{Incoming}
use Rattle.bit_c.proofs.Making.{not_made}
use Rattle.bit_c.proofs.texts.form_of.Goals as goal

pub returns-in-Err : goal.returns-in-Err
returns-in-Err c =
    not_made (setting_of c.args.info) c.args.limits _ _ c.args.bytes.now _ _ c.normalise-answer.result.0 c.in-Err.fault c.of.result _ (ap (λ (i : Incoming). i.to_come) c.new.ensures) c.in-Err.is c.of.ensures
    c.normalise-answer.ensures
