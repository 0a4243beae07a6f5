use Rattle.bit_text.specs.Places.{IsNumber}
use Rattle.bit_text.proofs.numbers.long_word.Given as goal

abbrev pub invariant-loop-i : goal.invariant-loop-i
invariant-loop-i l = IsNumber l.text l.from l.i l.n
