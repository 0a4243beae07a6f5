use Rattle.bit_grammar.proofs.NormalForms.Under.{marks_left}
use Rattle.bit_grammar.proofs.tree_laws.events_left.Goals as goal

pub returns : goal.returns
returns c = marks_left
