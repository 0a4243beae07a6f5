use Rattle.std.proofs.Common.{[], refl}
use Rattle.bit_fields.specs.PlacedView.{placed}
use Rattle.bit_events.proofs.PassedOver.{none_passed, passes_records}
use Rattle.bit_events.proofs.passing.PassedRun.none.Goals as goal

pub returns : goal.returns
returns c = λ width definitions. passes_records width definitions c.args.room (placed c.args.bits) [] c.args.room (placed c.args.bits) _ (none_passed width definitions c.args.room (placed c.args.bits)) refl c.position.ensures
