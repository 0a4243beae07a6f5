use Rattle.std.proofs.Common.{refl}
use Rattle.bitstool.proofs.parse.same_of.Goals as goal

pub returns : goal.returns
returns c = (c.in_ok-left.left, c.explain_of.result, refl, c.in_ok-left.ensures, c.explain_of.ensures)
