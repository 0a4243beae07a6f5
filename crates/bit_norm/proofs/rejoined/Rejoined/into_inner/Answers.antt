use Rattle.std.proofs.Common.{refl}
use Rattle.bit_norm.specs.Rejoined.{held_of, owed_of}
use Rattle.bit_norm.proofs.rejoined.Rejoined.into_inner.Goals as goal

pub returns : goal.returns
returns g c = (held_of c.args.self.again, owed_of c.args.self.again, c.args.self.pulls, c.args.self.failures, refl)
