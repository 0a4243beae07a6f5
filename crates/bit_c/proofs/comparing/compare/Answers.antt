use Rattle.bit_grammar.specs.Setting.{setting_of}
use Rattle.std.proofs.Common.{ap}
use Rattle.bit_fields.specs.Devices.{Incoming}
use Rattle.bit_c.specs.Comparing.{Sames}
use Rattle.bit_c.proofs.Compared.{not_compared}
use Rattle.bit_c.proofs.comparing.compare.Goals as goal

pub returns-in-Err : goal.returns-in-Err
returns-in-Err c =
    let setting = setting_of c.args.info in let first = c.args.first.now in let second = c.args.second.now in
    not_compared setting c.args.limits first second _ _ c.same_as-answer.result.0 c.in-Err.misread c.input_of.result c.of.result (Sames setting c.args.limits first second)
    (ap (λ (i : Incoming). i.to_come) c.new.ensures) c.in-Err.is c.input_of.ensures c.of.ensures (λ number reason bit h. h) tt c.same_as-answer.ensures
