use Rattle.std.proofs.Common.{refl, ap}
use Rattle.bit_fields.specs.Devices.{Outgoing}
use Rattle.bit_c.proofs.Written.{form_made}
use Rattle.bit_c.proofs.telling.form_of.Goals as goal

pub returns-in-Ok : goal.returns-in-Ok
returns-in-Ok c =
    let answer = c.finish-answer.ensures in
    form_made c.args.writer c.in-Ok.field-0 _ _ c.finish-answer.result.1.took.bytes c.kept_of.result (ap (λ (o : Outgoing). o.bytes) c.new.ensures) refl (λ calls was. rw c.in-Ok.is at (answer.form calls was)) (λ calls was. answer.fit calls was)
    c.kept_of.ensures
