use Rattle.std.proofs.Common.{length, ap, ◌∙◌, arith}
use Rattle.bit_fields.specs.Buffered.{BufferedBits}
use Rattle.bit_fields.proofs.Placing.{length_at}
use Rattle.bit_norm.proofs.form_run.write_other.Goals as goal

pub write_list-requires-clause-there : goal.write_list-requires-clause-there
write_list-requires-clause-there c = omega (arith, c.requires.there, ap (λ (b : BufferedBits). length b.bits) c.of-fields.ensures ∙ length_at c.args.place c.args.from.now)

pub write_coded-requires-clause-there : goal.write_coded-requires-clause-there
write_coded-requires-clause-there c = omega (arith, c.requires.there, ap (λ (b : BufferedBits). length b.bits) c.of-fields.ensures ∙ length_at c.args.place c.args.from.now)
