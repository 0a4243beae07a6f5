use Rattle.bit_grammar.proofs.NormalForms.Normals.{normal_spelled as one_law}
use Rattle.bit_grammar.proofs.normal_laws.normal_spelled.Goals as goal

pub returns : goal.returns
returns c = one_law
