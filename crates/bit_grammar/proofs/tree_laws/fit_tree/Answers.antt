use Rattle.bit_grammar.proofs.NormalForms.Settings.{fit_of_setting}
use Rattle.bit_grammar.proofs.tree_laws.fit_tree.Goals as goal

pub returns : goal.returns
returns c = fit_of_setting
