use Rattle.std.proofs.Common.{ap, refl}
use Rattle.bit_fields.specs.Devices.{Incoming, Outgoing}
use Rattle.bit_c.proofs.Assembled.{assembled, not_assembled}
use Rattle.bit_c.proofs.assembling.assembled_of.Goals as goal

pub returns-in-Ok : goal.returns-in-Ok
returns-in-Ok c =
    assembled c.args.limits _ _ c.args.text.now c.assemble-answer.result.2.took.bytes _ _ c.assemble-answer.result.0 c.in-Ok.field-0 c.requires (ap (λ (i : Incoming). i.to_come) c.new.ensures)
    (ap (λ (o : Outgoing). o.bytes) c.new-sink.ensures) refl c.in-Ok.is c.assemble-answer.ensures

pub returns-in-Err : goal.returns-in-Err
returns-in-Err c =
    not_assembled c.args.limits _ _ c.args.text.now _ _ c.assemble-answer.result.0 c.in-Err.fault c.of_listing.result _ (ap (λ (i : Incoming). i.to_come) c.new.ensures) c.in-Err.is c.of_listing.ensures c.assemble-answer.ensures
