use Rattle.bit_fields.proofs.Gap.{gap_taken}
use Rattle.bit_fields.proofs.reader.BitReader.skip_some.Goals as goal

pub returns-in-Ok-clause-takes : goal.returns-in-Ok-clause-takes
returns-in-Ok-clause-takes g c = gap_taken c.args.field c.args.most c.in-Ok.count c.self.inside.position c.self.inside.live c.self.inside.inflow c.skip.new.self c.args.self.now c.self.view_is c.requires.live c.in-Ok.ensures.skips.0 c.in-Ok.ensures.skips.1
