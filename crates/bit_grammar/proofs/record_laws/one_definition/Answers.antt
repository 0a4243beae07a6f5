use Rattle.bit_grammar.specs.Definition.{definition}
use Rattle.bit_grammar.proofs.Readings.Deciding.{one_value}
use Rattle.bit_grammar.proofs.record_laws.one_definition.Goals as goal

pub returns : goal.returns
returns c = λ shapes p s t x y v w e h k. one_value (definition shapes) p s t x y v w e h k
