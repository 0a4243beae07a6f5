use Rattle.bit_grammar.proofs.Events.Happenings.{input_nested, accepted_nested}
use Rattle.bit_grammar.proofs.machine_laws.nested_input.Goals as goal

pub returns : goal.returns
returns c = record { kept = input_nested; accepted = accepted_nested }
