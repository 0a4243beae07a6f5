use Rattle.bit_fields.proofs.Pens.{ten_spelled}
use Rattle.bit_fields.proofs.pen.short_chunks.Goals as goal

pub returns-clause-spelled : goal.returns-clause-spelled
returns-clause-spelled c = ten_spelled c.args.value _ c.requires c.from-more.ensures
