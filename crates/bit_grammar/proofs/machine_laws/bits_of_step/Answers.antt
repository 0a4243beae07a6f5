use Rattle.bit_grammar.proofs.Events.Steps.{step_on}
use Rattle.bit_grammar.proofs.machine_laws.bits_of_step.Goals as goal

pub returns : goal.returns
returns c = step_on
