use Rattle.std.proofs.Common.{ap}
use Rattle.bit_grammar.specs.Fields.{fixed}
use Rattle.bit_fields.specs.Reader.{Reader}
use Rattle.bit_fields.proofs.Composing.{only}
use Rattle.bit_fields.proofs.Parts.{fixed_from}
use Rattle.bit_fields.proofs.reader.BitReader.fixed.Goals as goal

pub returns-clause-takes : goal.returns-clause-takes
returns-clause-takes g c = fixed_from c.args.n c.self.inside.position c.args.self.now c.part.result c.part.new.self (ap (λ (r : Reader). r.position) c.self.view_is) c.part.ensures.takes

pub returns-clause-only : goal.returns-clause-only
returns-clause-only g c = only (fixed c.args.n) c.args.self.now c.part.result c.part.new.self (returns-clause-takes g c)
