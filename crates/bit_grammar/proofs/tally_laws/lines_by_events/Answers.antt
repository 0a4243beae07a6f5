use Rattle.bit_grammar.proofs.Tallying.Listings.{lines_by_events as law}
use Rattle.bit_grammar.proofs.tally_laws.lines_by_events.Goals as goal

pub returns : goal.returns
returns c = law
