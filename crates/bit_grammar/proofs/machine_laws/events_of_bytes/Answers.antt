use Rattle.bit_grammar.proofs.Events.Happenings.{events_if_told}
use Rattle.bit_grammar.proofs.machine_laws.events_of_bytes.Goals as goal

pub returns : goal.returns
returns c = events_if_told
