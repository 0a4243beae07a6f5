use Rattle.bit_grammar.proofs.WholeInputs.Inputs.{one_fault as one_law}
use Rattle.bit_grammar.proofs.input_laws.one_fault.Goals as goal

pub returns : goal.returns
returns c = one_law
