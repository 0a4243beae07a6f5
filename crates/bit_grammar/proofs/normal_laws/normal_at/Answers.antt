use Rattle.bit_grammar.proofs.NormalForms.Sizes.{end_again, body_whole}
use Rattle.bit_grammar.proofs.NormalForms.Periods.{normal_again}
use Rattle.bit_grammar.proofs.normal_laws.normal_at.Goals as goal

pub returns : goal.returns
returns c = record { text = normal_again; end = end_again; body = body_whole }
