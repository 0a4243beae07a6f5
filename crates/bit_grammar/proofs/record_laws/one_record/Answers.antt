use Rattle.bit_grammar.specs.Record.{abbreviated}
use Rattle.bit_grammar.proofs.Readings.Deciding.{one_value}
use Rattle.bit_grammar.proofs.record_laws.one_record.Goals as goal

pub returns : goal.returns
returns c = λ start room ops p s t x y v w e h k. one_value (abbreviated start room ops) p s t x y v w e h k
