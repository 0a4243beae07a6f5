use Rattle.bit_events.proofs.Entering.{entered}
use Rattle.bit_events.proofs.machine.Machine.push.Goals as goal

pub returns-clause-made : goal.returns-clause-made
returns-clause-made c = rw (c.push_reserved.ensures.items, c.in_ok-reserve.ensures.items) (entered c.args.self.now.frames.items c.args.head c.in_ok-definitions.definitions c.args.info c.args.self.now.table c.args.self.now.used c.in_ok-definitions.ensures.all c.requires.info)
