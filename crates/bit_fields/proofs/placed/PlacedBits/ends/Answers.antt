use Rattle.bit_fields.proofs.Placing.{eight_there, ends_shown, ends_front}
use Rattle.bit_fields.proofs.placed.PlacedBits.ends.Goals as goal

pub eight_of-requires : goal.eight_of-requires
eight_of-requires c = eight_there c.args.self.at c.args.self.bytes.now c.requires

pub returns-clause-shows : goal.returns-clause-shows
returns-clause-shows c = ends_shown c.args.self.at c.eight_of.result c.args.self.bytes.now c.requires c.eight_of.type_inv c.eight_of.ensures

pub returns-clause-front : goal.returns-clause-front
returns-clause-front c = ends_front c.args.self.at c.eight_of.result c.args.self.bytes.now c.requires c.eight_of.type_inv c.eight_of.ensures
