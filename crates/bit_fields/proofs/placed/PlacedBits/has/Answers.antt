use Rattle.std.proofs.Common.{◌*◌, ◌-◌, length, arith}
use Rattle.std.proofs.lemmas.Bool.{leb-true}
use Rattle.bit_fields.proofs.Placing.{length_at}
use Rattle.bit_fields.proofs.placed.PlacedBits.has.Goals as goal

pub returns : goal.returns
returns c = λ is. omega (arith, leb-true c.args.n (8 * length c.args.self.bytes.now - c.args.self.at) is, length_at c.args.self.at c.args.self.bytes.now)
