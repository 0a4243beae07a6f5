use Rattle.std.proofs.Common.{◌≡◌, ◌++◌, length}
use Rattle.bit_grammar.specs.Normal.{values_bits}
use Rattle.bit_fields.proofs.text.BitText.numbers.Given as goal

abbrev pub invariant-loop-rest : goal.invariant-loop-rest
invariant-loop-rest l = l.self ++ values_bits l.rest ≡ l.fn.self ++ values_bits l.values

abbrev pub decreases-loop-rest : goal.decreases-loop-rest
decreases-loop-rest l = length l.rest
