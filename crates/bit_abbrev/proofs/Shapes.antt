-- Lawful lists: what can be defined, in a lawful order.
use Rattle.std.proofs.Common.{◌≡◌, true, List, sym}
use Rattle.bit_grammar.specs.declared.op.Op.{Op}
use Rattle.bit_grammar.specs.Definition.{has_shape}
use Rattle.bit_grammar.specs.FormatDefinition.{Definable, Lawful}
use Rattle.bit_grammar.proofs.Words.Definitions.{is_in_order}
use Rattle.bit_grammar.proofs.Words.Operands.{shape_of}

pub lawful_of : (ops : List Op) → Definable ops → has_shape ops ≡ true → Lawful ops
lawful_of ops definable shape = record { some = definable.some; order = is_in_order ops shape; values = definable.values }

pub of_lawful : (ops : List Op) → Lawful ops → Definable ops × (true ≡ has_shape ops)
of_lawful ops lawful = (record { some = lawful.some; values = lawful.values }, sym (shape_of ops lawful.order))
