use Rattle.std.proofs.Common.{◌≤◌}
use Rattle.bit_text.proofs.Spelling.{NumbersFrom}
use Rattle.bit_text.proofs.numbers.read_words.Given as goal

abbrev pub invariant-loop-i : goal.invariant-loop-i
invariant-loop-i l = record {
  within : l.from ≤ l.i;
  far : NumbersFrom l.fn.numbers.items l.text l.numbers.items l.from l.i;
}
