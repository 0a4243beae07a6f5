use Rattle.bit_abbrev.proofs.Breaks.{lawful_is}
use Rattle.bit_abbrev.proofs.laws.lawful_unbroken.Goals as goal

pub returns : goal.returns
returns c = lawful_is
