use Rattle.std.proofs.Common.{◌≡◌, ◌++◌, take}
use Rattle.bit_fields.proofs.wide.WideNumbers.push_each_byte.Given as goal

abbrev pub invariant-loop-byte : goal.invariant-loop-byte
invariant-loop-byte l = l.self ≡ l.fn.self ++ take l.byte-index l.bytes
