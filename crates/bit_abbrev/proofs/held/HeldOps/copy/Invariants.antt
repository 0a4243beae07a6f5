use Rattle.std.proofs.Common.{◌≡◌, ◌++◌, length}
use Rattle.bit_abbrev.specs.HeldOps.{ops_in}
use Rattle.bit_abbrev.proofs.held.HeldOps.copy.Given as goal

abbrev pub invariant-loop-op : goal.invariant-loop-op
invariant-loop-op l = l.ops.items ++ ops_in l.left ≡ l.fn.self

abbrev pub decreases-loop-op : goal.decreases-loop-op
decreases-loop-op l = length l.left
