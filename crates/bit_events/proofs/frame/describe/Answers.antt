use Rattle.bit_events.proofs.Framing.{none_described}
use Rattle.bit_events.proofs.frame.describe.Goals as goal

pub returns-in-None : goal.returns-in-None
returns-in-None g c = λ list is. rw c.in-None.is (none_described c.args.first (record { code = c.args.code; values = list }) c.args.reader.now c.requires)
