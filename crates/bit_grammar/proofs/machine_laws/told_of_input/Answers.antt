use Rattle.bit_grammar.proofs.Events.Telling.{told_if_spelled, told_if_broken}
use Rattle.bit_grammar.proofs.machine_laws.told_of_input.Goals as goal

pub returns : goal.returns
returns c = record { spelled = told_if_spelled; broken = told_if_broken }
