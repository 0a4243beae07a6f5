use Rattle.bit_grammar.proofs.WholeInputs.Limits.{limits_judged}
use Rattle.bit_grammar.proofs.input_laws.limits_of_tree.Goals as goal

pub returns : goal.returns
returns c = limits_judged
