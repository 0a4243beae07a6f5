use Rattle.std.proofs.Common.{arith}
use Rattle.bit_fields.specs.PlacedView.{placed}
use Rattle.bit_fields.proofs.Placing.{has_one}
use Rattle.bit_fields.proofs.placed.PlacedBits.long.Goals as goal

pub returns-clause-has : goal.returns-clause-has
returns-clause-has c = has_one c.args.n c.far-len.result.0 c.far-len.result.1 (placed c.args.self) (c.far-len.ensures (omega arith))
