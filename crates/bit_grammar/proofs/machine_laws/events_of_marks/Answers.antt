use Rattle.bit_grammar.proofs.Events.Nesting.{nested_marks, values_of_marks}
use Rattle.bit_grammar.proofs.machine_laws.events_of_marks.Goals as goal

pub returns : goal.returns
returns c = record { nested = nested_marks; values = values_of_marks }
