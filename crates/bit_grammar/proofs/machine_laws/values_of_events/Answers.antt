use Rattle.bit_grammar.proofs.Events.Nesting.{values_from_start}
use Rattle.bit_grammar.proofs.machine_laws.values_of_events.Goals as goal

pub returns : goal.returns
returns c = values_from_start
