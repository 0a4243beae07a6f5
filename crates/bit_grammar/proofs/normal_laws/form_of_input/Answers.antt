use Rattle.bit_grammar.proofs.NormalForms.Forms.{form_of_input as one_law}
use Rattle.bit_grammar.proofs.normal_laws.form_of_input.Goals as goal

pub returns : goal.returns
returns c = one_law
