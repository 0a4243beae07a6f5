use Rattle.bit_grammar.proofs.NormalForms.Settings.{whole_of, left_of}
use Rattle.bit_grammar.proofs.tree_laws.reading_stays.Goals as goal

pub returns : goal.returns
returns c = record { whole = whole_of; left = left_of }
