use Rattle.std.proofs.Common.{◌≡◌, ◌*◌, ◌-◌, ◌≤◌, length, take}
use Rattle.bit_text.proofs.Digits.{Reading}
use Rattle.bit_text.proofs.numbers.quick_numbers.Given as goal

abbrev pub invariant-loop-from : goal.invariant-loop-from
invariant-loop-from l = record {
  long : length l.batch ≡ 256;
  few : l.count * 2 ≤ l.from;
  reading : l.from ≤ l.end → Reading (take l.end l.text) (take l.count l.batch) l.from;
}

abbrev pub decreases-loop-from : goal.decreases-loop-from
decreases-loop-from l = l.end - l.from
