use Rattle.bit_grammar.specs.Record.{abbreviated}
use Rattle.bit_grammar.proofs.Readings.Deciding.{decides}
use Rattle.bit_grammar.proofs.record_laws.record_or_fault.Goals as goal

pub returns : goal.returns
returns c = λ start room ops p r. decides (abbreviated start room ops) p r
