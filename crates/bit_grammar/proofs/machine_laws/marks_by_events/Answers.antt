use Rattle.bit_grammar.proofs.Events.Telling.{flat_only}
use Rattle.bit_grammar.proofs.machine_laws.marks_by_events.Goals as goal

pub returns : goal.returns
returns c = flat_only
