use Rattle.bit_fields.proofs.Placing.{front_from}
use Rattle.bit_fields.proofs.placed.bits.ends_from.Goals as goal

pub returns : goal.returns
returns c = front_from c.args.place c.args.shift c.eight_of.result c.args.bytes.now c.requires.there c.requires.bit c.eight_of.type_inv c.eight_of.ensures
