use Rattle.bit_grammar.proofs.Events.Nesting.{nested_from_start}
use Rattle.bit_grammar.proofs.machine_laws.nested_events.Goals as goal

pub returns : goal.returns
returns c = nested_from_start
