use Rattle.bit_grammar.proofs.WholeInputs.Apart.{also_taken, also_refused}
use Rattle.bit_grammar.proofs.input_laws.shapes_apart.Goals as goal

pub returns : goal.returns
returns c = record { taken = also_taken; refused = also_refused }
