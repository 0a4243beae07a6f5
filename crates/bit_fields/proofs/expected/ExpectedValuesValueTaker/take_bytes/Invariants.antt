use Rattle.std.proofs.Common.{◌≡◌, ◌≤◌, ◌-◌, length, take}
use Rattle.bit_fields.specs.Expected.{AreNext, further}
use Rattle.bit_fields.proofs.expected.ExpectedValuesValueTaker.take_bytes.Given as goal

abbrev pub invariant-loop-done : goal.invariant-loop-done
invariant-loop-done l = record {
  within : l.done ≤ length l.bytes;
  came : l.self ≡ further l.fn.self l.done;
  next : AreNext l.fn.self (take l.done l.bytes);
}

abbrev pub decreases-loop-done : goal.decreases-loop-done
decreases-loop-done l = length l.bytes - l.done
