use Rattle.bit_grammar.proofs.NormalForms.Sizes.{form_bytes, form_size, size_whole}
use Rattle.bit_grammar.proofs.normal_laws.normal_bytes.Goals as goal

pub returns : goal.returns
returns c = record { bytes = form_bytes; size = form_size; words = size_whole }
