use Rattle.std.proofs.Common.{◌≡◌, ◌∙◌, ap, arith}
use Rattle.bit_fields.specs.Buffered.{BufferedBits, beyond}
use Rattle.bit_fields.specs.PlacedView.{loaded, placed}
use Rattle.bit_events.proofs.PassedOver.{all_within, planned_passes}
use Rattle.bit_events.proofs.passing.ByPlansPassOne.pass_one.Goals as goal

pub returns-clause-passes : goal.returns-clause-passes
returns-clause-passes c =
    let here : loaded c.after-fields.result ≡ beyond (placed c.args.bits) c.args.width = c.after-fields.ensures ∙ ap (λ (b : BufferedBits). beyond b c.args.width) c.load.ensures in
    planned_passes c.pass.result c.args.self.definitions.now c.in_ok-abbrev.abbrev.now c.plan.result.now c.args.id c.args.room (loaded c.after-fields.result) (beyond (placed c.args.bits) c.args.width) here (λ is. omega (arith, c.requires.id, is)) c.in_ok-abbrev.ensures c.plan.ensures c.pass.ensures.passes

pub returns-clause-within : goal.returns-clause-within
returns-clause-within c =
    let here : loaded c.after-fields.result ≡ beyond (placed c.args.bits) c.args.width = c.after-fields.ensures ∙ ap (λ (b : BufferedBits). beyond b c.args.width) c.load.ensures in
    all_within c.pass.result c.args.width (loaded c.after-fields.result) (placed c.args.bits) here (omega arith) c.pass.ensures.within
