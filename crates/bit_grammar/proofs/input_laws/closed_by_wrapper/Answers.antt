use Rattle.bit_grammar.proofs.WholeInputs.Closing.{closed_is}
use Rattle.bit_grammar.proofs.input_laws.closed_by_wrapper.Goals as goal

pub returns : goal.returns
returns c = closed_is
