use Rattle.std.proofs.Common.{◌≡◌, ◌+◌, drop}
use Rattle.bit_text.specs.Lines.{spaces}
use Rattle.bit_text.proofs.line.spaces.Given as goal

abbrev pub invariant-loop-i : goal.invariant-loop-i
invariant-loop-i l = spaces l.line ≡ l.i + spaces (drop l.i l.line)
