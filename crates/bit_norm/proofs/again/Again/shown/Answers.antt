use Rattle.std.proofs.Common.{◌++◌, refl}
use Rattle.bit_norm.proofs.again.Again.shown.Goals as goal

pub returns : goal.returns
returns c = (c.args.self.now.rest.now ++ c.args.self.now.next.now, refl)
