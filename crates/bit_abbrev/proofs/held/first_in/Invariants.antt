use Rattle.std.proofs.Common.{◌≡◌, ◌≤◌, length}
use Rattle.bit_abbrev.specs.HeldOps.{ops_in}
use Rattle.bit_abbrev.proofs.held.first_in.Given as goal

abbrev pub invariant-loop-left : goal.invariant-loop-left
invariant-loop-left l = record { same : ops_in l.left ≡ ops_in l.held; within : length l.left ≤ length l.held }

abbrev pub decreases-loop-left : goal.decreases-loop-left
decreases-loop-left l = length l.left
