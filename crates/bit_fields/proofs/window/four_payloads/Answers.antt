use Rattle.bit_fields.proofs.Short.{four_is}
use Rattle.bit_fields.proofs.window.four_payloads.Goals as goal

pub returns : goal.returns
returns c = four_is c.args.n c.args.word c.above-third.result c.above-second.result c.above.result c.requires.some c.requires.few c.above-third.ensures c.above-second.ensures c.above.ensures
