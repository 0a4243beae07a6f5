use Rattle.bit_scan.proofs.Forwards.{smalls}
use Rattle.bit_scan.proofs.digits.entry_of.Goals as goal

pub returns : goal.returns
returns c = smalls c.args.number c.requires
