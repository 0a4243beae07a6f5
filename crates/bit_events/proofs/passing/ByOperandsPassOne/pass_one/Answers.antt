use Rattle.std.proofs.Common.{◌≡◌, ◌∙◌, ap, arith}
use Rattle.bit_fields.specs.Buffered.{beyond}
use Rattle.bit_fields.specs.PlacedView.{placed}
use Rattle.bit_events.proofs.PassedOver.{operands_passes, operands_within}
use Rattle.bit_events.proofs.passing.ByOperandsPassOne.pass_one.Goals as goal

pub returns-clause-passes : goal.returns-clause-passes
returns-clause-passes c =
    let here : placed c.after.result ≡ beyond (placed c.args.bits) c.args.width = c.after.ensures.rest ∙ ap (beyond (placed c.args.bits)) c.from.ensures in
    operands_passes c.pass_by_operands.result c.args.self.definitions.now c.in_ok-abbrev.abbrev.now c.args.id c.args.room (placed c.after.result) (beyond (placed c.args.bits) c.args.width) here (λ is. omega (arith, c.requires.id, is)) c.in_ok-abbrev.ensures c.pass_by_operands.ensures

pub returns-clause-within : goal.returns-clause-within
returns-clause-within c =
    let here : placed c.after.result ≡ beyond (placed c.args.bits) c.args.width = c.after.ensures.rest ∙ ap (beyond (placed c.args.bits)) c.from.ensures in
    operands_within c.pass_by_operands.result c.in_ok-abbrev.abbrev.now c.args.room c.args.width (placed c.after.result) (placed c.args.bits) here (omega arith) c.pass_by_operands.ensures
