use Rattle.bit_fields.proofs.AtTheEnd.{closed_is_reader}
use Rattle.bit_fields.proofs.reader.BitReader.close.Goals as goal

pub invariant_of-self-2 : goal.invariant_of-self-2
invariant_of-self-2 g c = closed_is_reader c.self.inside.live c.self.inside.position c.self.inside.inflow c.clear.new.self c.drain.new.self c.drain.result c.self.invariant c.clear.ensures c.drain.ensures
