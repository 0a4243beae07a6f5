use Rattle.std.proofs.Common.{◌+◌, ◌-◌, length}
use Rattle.bit_text.proofs.Digits.{Reading}
use Rattle.bit_text.proofs.numbers.read_numbers.Given as goal

abbrev pub invariant-loop-from : goal.invariant-loop-from
invariant-loop-from l = Reading l.text l.numbers.items l.from

abbrev pub decreases-loop-from : goal.decreases-loop-from
decreases-loop-from l = length l.text + 1 - l.from
