use Rattle.bit_grammar.proofs.NormalForms.Sizes.{short_length, short_range, items_end, body_is, form_end, size_is}
use Rattle.bit_grammar.proofs.normal_laws.normal_size.Goals as goal

pub returns : goal.returns
returns c = record { vbr = short_length; vbr_range = short_range; items = items_end; body = body_is; form = form_end; tree = size_is }
