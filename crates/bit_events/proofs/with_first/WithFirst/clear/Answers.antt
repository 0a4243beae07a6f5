use Rattle.std.proofs.Common.{[], refl}
use Rattle.bit_events.proofs.with_first.WithFirst.clear.Goals as goal

pub returns : goal.returns
returns g c = (c.truncate.ensures [] c.requires.0 c.requires.1 refl, refl)
