use Rattle.bit_grammar.proofs.NormalForms.Forms.{one_tree_of_form as one_law}
use Rattle.bit_grammar.proofs.normal_laws.one_tree_of_form.Goals as goal

pub returns : goal.returns
returns c = one_law
