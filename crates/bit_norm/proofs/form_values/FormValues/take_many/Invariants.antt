use Rattle.std.proofs.Common.{◌≡◌, ◌≤◌, ◌-◌, ℕ, List, ◌++◌, length, take}
use Rattle.bit_norm.specs.Building.{HasTaken}
use Rattle.bit_norm.proofs.form_values.FormValues.take_many.Given as goal

abbrev pub invariant-loop-done : goal.invariant-loop-done
invariant-loop-done l = record {
  none : l.self.held ≡ 0;
  within : l.done ≤ length l.bytes;
  took : (values : List ℕ) → HasTaken l.fn.self values → HasTaken l.self (values ++ take l.done l.bytes);
}

abbrev pub decreases-loop-done : goal.decreases-loop-done
decreases-loop-done l = length l.bytes - l.done
