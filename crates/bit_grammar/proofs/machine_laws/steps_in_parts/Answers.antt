use Rattle.bit_grammar.proofs.Events.Steps.{steps_in_parts as law}
use Rattle.bit_grammar.proofs.machine_laws.steps_in_parts.Goals as goal

pub returns : goal.returns
returns c = law
