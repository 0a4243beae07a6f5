use Rattle.bit_grammar.proofs.Events.Steps.{steps_told}
use Rattle.bit_grammar.proofs.machine_laws.steps_to_come.Goals as goal

pub returns : goal.returns
returns c = steps_told
