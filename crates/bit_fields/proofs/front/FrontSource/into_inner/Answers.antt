use Rattle.std.proofs.Common.{refl}
use Rattle.bit_fields.proofs.front.FrontSource.into_inner.Goals as goal

pub returns : goal.returns
returns g c = (c.args.self.left, c.args.self.pulls, c.args.self.failures, refl)
