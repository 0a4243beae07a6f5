use Rattle.std.proofs.Common.{◌≡◌, ◌++◌, true, List, ap, subst, sym, ◌∙◌}
use Rattle.bit_grammar.specs.declared.op.Op.{Op}
use Rattle.bit_grammar.specs.Definition.{has_shape}
use Rattle.bit_abbrev.proofs.Operands.{order_judged}
use Rattle.bit_abbrev.proofs.definition.read_row.Goals as goal

pub from_read-requires-clause-order : goal.from_read-requires-clause-order
from_read-requires-clause-order g c = λ judged.
    let adds = c.in_ok-read_operands.ensures in
    let same : c.in-Ok.ops.items ≡ adds.0 = c.in-Ok.ensures.ok ∙ c.as_slice.ensures ∙ adds.1 ∙ ap (λ (ops : List Op). ops ++ adds.0) c.new-row.ensures in
    subst (λ (ops : List Op). has_shape ops ≡ true) (sym same) (order_judged c.args.shapes c.args.count c.args.reader.now adds.0 c.read_operands.new.reader adds.2.1 judged)
