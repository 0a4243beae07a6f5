use Rattle.std.proofs.Common.{ℕ, List, ◌++◌, take}
use Rattle.bit_fields.proofs.values.ValueTaker.take_bytes.Given as goal

abbrev pub invariant-loop-byte : goal.invariant-loop-byte
invariant-loop-byte g l = (values : List ℕ) → g.Self.ValueTaker.took l.fn.self values → g.Self.ValueTaker.took l.self (values ++ take l.byte-index l.bytes)
