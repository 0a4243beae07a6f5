use Rattle.bit_grammar.proofs.Events.Nesting.{frames_of_step as law}
use Rattle.bit_grammar.proofs.machine_laws.frames_of_step.Goals as goal

pub returns : goal.returns
returns c = law
