use Rattle.std.proofs.Common.{◌≡◌, drop}
use Rattle.bit_grammar.specs.Definition.{in_order, has_shape}
use Rattle.bit_abbrev.proofs.abbrev.has_shape.Given as goal

abbrev pub invariant-loop-at : goal.invariant-loop-at
invariant-loop-at l = has_shape l.ops ≡ in_order l.place (drop l.at l.ops)
