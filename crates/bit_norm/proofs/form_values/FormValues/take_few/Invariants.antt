use Rattle.std.proofs.Common.{ℕ, List, ◌++◌, take}
use Rattle.bit_norm.specs.Building.{HasTaken}
use Rattle.bit_norm.proofs.form_values.FormValues.take_few.Given as goal

abbrev pub invariant-loop-byte : goal.invariant-loop-byte
invariant-loop-byte l = (values : List ℕ) → HasTaken l.fn.self values → HasTaken l.self (values ++ take l.byte-index l.bytes)
