use Rattle.bit_fields.proofs.Words.{some_moved}
use Rattle.bit_fields.proofs.buffered.load.Goals as goal

pub returns-clause-same : goal.returns-clause-same
returns-clause-same c = some_moved 4 c.args.window.now c.push.new.self c.four_of.result c.args.bytes.now c.push.ensures c.four_of.ensures.bits
