use Rattle.std.proofs.Common.{refl}
use Rattle.bitstool.proofs.parse.show_of.Goals as goal

pub returns : goal.returns
returns c = (c.in_ok-left.left, refl, c.in_ok-left.ensures)
