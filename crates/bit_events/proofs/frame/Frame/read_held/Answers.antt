use Rattle.std.proofs.Common.{refl}
use Rattle.bit_grammar.specs.declared.op.Place.TheVariants.{First}
use Rattle.bit_grammar.specs.Definition.{operands}
use Rattle.bit_abbrev.proofs.Operands.{adds_so}
use Rattle.bit_events.proofs.frame.Frame.read_held.Goals as goal

pub returns-in-None-clause-reads : goal.returns-in-None-clause-reads
returns-in-None-clause-reads g c =
    adds_so (operands c.args.shapes c.args.count First) c.args.reader.now c.read_held.result c.read_held.new.reader (λ ops is. record { made = λ handed. rw (c.in-None.is, is.0) refl; last = rw c.in-None.is is.1 }) c.read_held.ensures
