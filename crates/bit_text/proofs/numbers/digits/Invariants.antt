use Rattle.std.proofs.Common.{◌≡◌, drop}
use Rattle.bit_text.specs.Numbers.{digits, digits_after}
use Rattle.bit_text.proofs.numbers.digits.Given as goal

abbrev pub invariant-loop-b : goal.invariant-loop-b
invariant-loop-b l = digits l.base l.text ≡ digits_after l.base l.n (drop l.b-index l.text)
