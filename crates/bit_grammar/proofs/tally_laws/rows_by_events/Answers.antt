use Rattle.bit_grammar.proofs.Tallying.Tallies.{rows_by_events as law}
use Rattle.bit_grammar.proofs.tally_laws.rows_by_events.Goals as goal

pub returns : goal.returns
returns c = law
