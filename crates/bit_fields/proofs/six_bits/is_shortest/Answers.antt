use Rattle.std.proofs.Common.{arith}
use Rattle.std.proofs.lemmas.Bool.{eqb-true}
use Rattle.bit_fields.proofs.SixBitForms.{idle_in, none_idle}
use Rattle.bit_fields.proofs.six_bits.is_shortest.Goals as goal

pub returns : goal.returns
returns c = λ is. none_idle c.args.word c.args.bits (omega arith) c.requires (eqb-true (idle_in c.args.word c.args.bits) 0 is)
