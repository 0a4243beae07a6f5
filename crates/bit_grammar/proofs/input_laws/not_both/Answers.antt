use Rattle.bit_grammar.proofs.WholeInputs.Inputs.{not_both as one_law}
use Rattle.bit_grammar.proofs.input_laws.not_both.Goals as goal

pub returns : goal.returns
returns c = one_law
