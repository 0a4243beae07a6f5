use Rattle.bit_grammar.proofs.Events.Steps.{accepted_steps, broken_steps}
use Rattle.bit_grammar.proofs.machine_laws.steps_of_blocks.Goals as goal

pub returns : goal.returns
returns c = record { accepted = accepted_steps; broken = broken_steps }
