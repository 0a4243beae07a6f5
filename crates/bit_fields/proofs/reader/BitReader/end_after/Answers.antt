use Rattle.std.proofs.Common.{arith}
use Rattle.bit_fields.proofs.Starting.{ended_after, ended_is_reader}
use Rattle.bit_fields.proofs.reader.BitReader.end_after.Goals as goal

pub invariant_of-self : goal.invariant_of-self
invariant_of-self g c = ended_is_reader c.self.inside.position c.args.offset _ c.self.inside.live c.self.inside.inflow c.shorten.new.self c.args.self.now c.self.view_is c.requires.live c.requires.position c.requires.end c.shorten.ensures.limit c.self.invariant (omega arith) c.shorten.ensures.shortened

pub returns : goal.returns
returns g c = ended_after c.self.inside.position c.args.offset c.args.size _ c.self.inside.live c.self.inside.inflow c.shorten.new.self c.args.self.now c.self.view_is c.requires.live c.requires.position c.requires.end c.shorten.ensures.limit c.self.invariant (omega arith) c.shorten.ensures.shortened
