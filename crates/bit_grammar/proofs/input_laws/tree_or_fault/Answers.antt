use Rattle.bit_grammar.proofs.WholeInputs.Inputs.{tree_or_fault as one_law}
use Rattle.bit_grammar.proofs.input_laws.tree_or_fault.Goals as goal

pub returns : goal.returns
returns c = one_law
