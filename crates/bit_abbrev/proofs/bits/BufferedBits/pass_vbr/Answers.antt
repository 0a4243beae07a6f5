use Rattle.bit_grammar.specs.Fields.{vbr}
use Rattle.bit_abbrev.proofs.Buffered.{here_took}
use Rattle.bit_abbrev.proofs.bits.BufferedBits.pass_vbr.Goals as goal

pub returns : goal.returns
returns c = record { takes = here_took (vbr c.args.n.bits) c.args.self.now c.pass_vbr.result c.here.result c.pass_vbr.new.self c.pass_vbr.ensures.reads c.here.ensures }
