use Rattle.bit_fields.proofs.SixValues.{cut_joined, one_payload}
use Rattle.bit_fields.proofs.placed.values.number_in.Goals as goal

pub returns-then-len-eq6 : goal.returns-then-len-eq6
returns-then-len-eq6 c = λ count is. one_payload count c.args.word c.args.len is c.if-len-eq6.true

pub returns : goal.returns
returns c = λ count is. cut_joined count c.args.word c.args.len c.number_of.result is c.requires c.number_of.ensures
