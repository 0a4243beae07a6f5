use Rattle.bit_grammar.proofs.NormalForms.Settings.{normal_is_spelled, normal_whole, normal_once, normal_again, same_normal}
use Rattle.bit_grammar.proofs.normal_laws.normal_once.Goals as goal

pub returns : goal.returns
returns c = record { spelled = normal_is_spelled; whole = normal_whole; once = normal_once; again = normal_again; same = same_normal }
