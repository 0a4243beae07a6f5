use Rattle.bit_grammar.proofs.Words.Fields.{vbr_is, is_vbr}
use Rattle.bit_grammar.proofs.field_laws.vbr_in_chunks.Goals as goal

pub returns : goal.returns
returns c = λ n p s v wide. (vbr_is n p s v wide, is_vbr n p s v wide)
