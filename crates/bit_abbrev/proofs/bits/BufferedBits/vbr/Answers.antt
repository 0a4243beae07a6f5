use Rattle.bit_grammar.specs.Fields.{vbr}
use Rattle.bit_abbrev.proofs.Buffered.{here_took}
use Rattle.bit_abbrev.proofs.bits.BufferedBits.vbr.Goals as goal

pub returns-clause-takes : goal.returns-clause-takes
returns-clause-takes c = here_took (vbr c.args.n.bits) c.args.self.now c.vbr.result c.here.result c.vbr.new.self c.vbr.ensures.reads c.here.ensures
