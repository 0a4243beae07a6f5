use Rattle.bit_grammar.proofs.Words.Definitions.{definition_lawful}
use Rattle.bit_grammar.proofs.record_laws.lawful_definition.Goals as goal

pub returns : goal.returns
returns c = definition_lawful
