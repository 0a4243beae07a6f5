use Rattle.bit_fields.proofs.SixValues.{chunks_joined}
use Rattle.bit_fields.proofs.placed.values.number_of.Goals as goal

pub returns : goal.returns
returns c = λ count few below. chunks_joined count c.args.chunks few below
