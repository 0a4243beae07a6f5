use Rattle.bit_grammar.specs.Setting.{setting_of}
use Rattle.std.proofs.Common.{ap, refl}
use Rattle.bit_fields.specs.Devices.{Incoming}
use Rattle.bit_c.specs.declared.outcome.Outcome.{Outcome}
use Rattle.bit_c.specs.Differing.{Differences, no_difference}
use Rattle.bit_c.proofs.Compared.{difference_found, not_found}
use Rattle.bit_c.proofs.comparing.find.Goals as goal

pub returns-in-Err : goal.returns-in-Err
returns-in-Err c =
    let setting = setting_of c.args.info in let first = c.args.first.now in let second = c.args.second.now in let room = c.args.open_room.now in
    not_found setting c.args.limits first second _ _ c.first_difference_from-answer.result.0 c.in-Err.misread c.input_of.result c.of.result
    (λ (o : Outcome). Differences setting c.args.limits first second no_difference room room o)
    (ap (λ (i : Incoming). i.to_come) c.new.ensures) c.in-Err.is c.input_of.ensures c.of.ensures (λ number reason bit h. (h, refl, refl)) (tt, refl, refl) c.first_difference_from-answer.ensures

pub returns-in-Ok-Some : goal.returns-in-Ok-Some
returns-in-Ok-Some c =
    let setting = setting_of c.args.info in let first = c.args.first.now in let second = c.args.second.now in let n = c.give_difference.new in
    difference_found setting c.args.limits first second _ _ c.first_difference_from-answer.result.0 c.in-Ok-Some.field-0 c.in-Ok-Some.found n.difference c.args.open_room.now n.room c.give_difference.result
    (ap (λ (i : Incoming). i.to_come) c.new.ensures) c.in-Ok-Some.is c.in-Ok-Some.field-0-is c.first_difference_from-answer.ensures c.give_difference.ensures
