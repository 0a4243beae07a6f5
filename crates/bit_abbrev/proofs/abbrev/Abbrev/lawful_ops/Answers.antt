use Rattle.bit_abbrev.proofs.Shapes.{lawful_of}
use Rattle.bit_abbrev.proofs.abbrev.Abbrev.lawful_ops.Goals as goal

pub returns-clause-lawful : goal.returns-clause-lawful
returns-clause-lawful c = lawful_of c.args.self.now (rw (← c.self.view_is) c.self.invariant.0) c.requires
