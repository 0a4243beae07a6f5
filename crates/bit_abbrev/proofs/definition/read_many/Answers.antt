use Rattle.std.proofs.Common.{◌≡◌, rules, true, List, subst, sym}
use Rattle.bit_grammar.specs.declared.op.Op.{Op}
use Rattle.bit_grammar.specs.declared.op.Place.TheVariants.{First}
use Rattle.bit_grammar.specs.Definition.{operands, has_shape}
use Rattle.bit_fields.specs.Reader.{Took}
use Rattle.bit_abbrev.proofs.Operands.{order_judged}
use Rattle.bit_abbrev.proofs.definition.read_many.Goals as goal

pub returns-in-Ok : goal.returns-in-Ok
returns-in-Ok g c =
    let same : c.from_read.result ≡ c.in_ok-gathered.gathered.items = search rules in
    subst (λ (ops : List Op). Took (operands c.args.shapes c.args.count First) c.args.reader.now ops c.read_gathered.new.reader) (sym same) c.in_ok-gathered.ensures.takes

pub from_read-requires-clause-order : goal.from_read-requires-clause-order
from_read-requires-clause-order g c = λ judged.
    let same : c.in-Ok.ops.items ≡ c.in_ok-gathered.gathered.items = search rules in
    subst (λ (ops : List Op). has_shape ops ≡ true) (sym same) (order_judged c.args.shapes c.args.count c.args.reader.now c.in_ok-gathered.gathered.items c.read_gathered.new.reader c.in_ok-gathered.ensures.takes judged)
