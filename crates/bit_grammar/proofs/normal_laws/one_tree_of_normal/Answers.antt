use Rattle.bit_grammar.proofs.NormalForms.Normals.{one_tree_of_normal as one_law}
use Rattle.bit_grammar.proofs.normal_laws.one_tree_of_normal.Goals as goal

pub returns : goal.returns
returns c = one_law
