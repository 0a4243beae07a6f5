use Rattle.bit_grammar.specs.Fields.{fixed}
use Rattle.bit_abbrev.proofs.Buffered.{here_took}
use Rattle.bit_abbrev.proofs.bits.BufferedBits.fixed.Goals as goal

pub returns-clause-takes : goal.returns-clause-takes
returns-clause-takes c = here_took (fixed c.args.n.bits) c.args.self.now c.fixed.result c.here.result c.fixed.new.self c.fixed.ensures.reads c.here.ensures
