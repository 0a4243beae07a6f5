use Rattle.std.specs.Int.{w64, bit_not}
use Rattle.bit_fields.specs.PlacedView.{placed}
use Rattle.bit_fields.proofs.Placing.{front_shown}
use Rattle.bit_fields.proofs.placed.PlacedBits.front.Goals as goal

pub returns-clause-front : goal.returns-clause-front
returns-clause-front c = front_shown c.args.n (bit_not w64 c.ends.result) (placed c.args.self).bits c.requires.few (c.ends.ensures.front c.args.n c.requires.few)
