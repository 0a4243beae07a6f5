use Rattle.bit_grammar.proofs.Events.Nesting.{values_of_step as law}
use Rattle.bit_grammar.proofs.machine_laws.values_of_step.Goals as goal

pub returns : goal.returns
returns c = law
