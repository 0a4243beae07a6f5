use Rattle.bit_grammar.proofs.Events.Nesting.{leads_kept}
use Rattle.bit_grammar.proofs.Events.Steps.{leads_on}
use Rattle.bit_grammar.proofs.machine_laws.machine_after.Goals as goal

pub returns : goal.returns
returns c = record { kept = leads_kept; wide = leads_on }
