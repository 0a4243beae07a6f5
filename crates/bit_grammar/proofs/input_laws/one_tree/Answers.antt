use Rattle.bit_grammar.proofs.WholeInputs.Inputs.{one_tree as one_law}
use Rattle.bit_grammar.proofs.input_laws.one_tree.Goals as goal

pub returns : goal.returns
returns c = one_law
