use Rattle.std.proofs.Common.{arith}
use Rattle.bit_fields.proofs.Placing.{length_at}
use Rattle.bit_abbrev.proofs.plan.Pass.near.Goals as goal

pub overflow_add-from : goal.overflow_add-from
overflow_add-from c = omega (arith, c.requires.there, c.from.ensures, c.args.fields.bits.fits, length_at c.args.fields.bits.at c.args.fields.bits.bytes.now)
