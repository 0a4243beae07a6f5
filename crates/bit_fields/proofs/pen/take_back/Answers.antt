use Rattle.bit_fields.proofs.Pens.{dropped_holds}
use Rattle.bit_fields.proofs.pen.take_back.Goals as goal

pub returns : goal.returns
returns c = dropped_holds c.args.bytes.now c.args.at c.requires.room
