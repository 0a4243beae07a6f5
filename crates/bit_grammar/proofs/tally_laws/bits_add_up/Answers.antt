use Rattle.bit_grammar.proofs.Tallying.Tallies.{bits_add_up as law}
use Rattle.bit_grammar.proofs.tally_laws.bits_add_up.Goals as goal

pub returns : goal.returns
returns c = law
