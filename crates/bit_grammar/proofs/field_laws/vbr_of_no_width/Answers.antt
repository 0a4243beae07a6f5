use Rattle.bit_grammar.specs.Fields.{vbr}
use Rattle.bit_grammar.proofs.field_laws.vbr_of_no_width.Goals as goal

pub returns : goal.returns
unfolding vbr
returns c = λ p s v. (λ h. (h.1, h.0), λ h. (h.1, h.0))
