use Rattle.std.proofs.Common.{◌≡◌, ◌++◌, take}
use Rattle.bit_fields.proofs.wide.WideNumbers.push_each.Given as goal

abbrev pub invariant-loop-number : goal.invariant-loop-number
invariant-loop-number l = l.self ≡ l.fn.self ++ take l.number-index l.numbers
