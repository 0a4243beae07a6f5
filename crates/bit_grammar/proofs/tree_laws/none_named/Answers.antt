use Rattle.bit_grammar.proofs.NormalForms.Under.{none_left, unnamed_stays}
use Rattle.bit_grammar.proofs.tree_laws.none_named.Goals as goal

pub returns : goal.returns
returns c = record { left = none_left; stays = unnamed_stays }
