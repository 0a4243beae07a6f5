use Rattle.bit_grammar.specs.Fields.{char6}
use Rattle.bit_abbrev.proofs.Buffered.{here_took}
use Rattle.bit_abbrev.proofs.bits.BufferedBits.char6.Goals as goal

pub returns-clause-takes : goal.returns-clause-takes
returns-clause-takes c = here_took char6 c.args.self.now c.char6.result c.here.result c.char6.new.self c.char6.ensures.reads c.here.ensures
