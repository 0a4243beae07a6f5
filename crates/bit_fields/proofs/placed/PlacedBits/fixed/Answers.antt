use Rattle.std.proofs.Common.{arith}
use Rattle.bit_fields.specs.PlacedView.{placed}
use Rattle.bit_fields.proofs.Placing.{fixed_shown}
use Rattle.bit_fields.proofs.placed.PlacedBits.fixed.Goals as goal

pub returns : goal.returns
returns c = fixed_shown c.args.n c.front.result (placed c.args.self) (omega arith) c.front.ensures.front c.front.ensures.below
