use Rattle.std.proofs.Common.{◌≡◌, ◌-◌, ◌+◌, ◌≤◌, ◌++◌, length, take, replicate}
use Rattle.bit_scan.proofs.digits.put_many_spaces.Given as goal

abbrev pub invariant-loop-done : goal.invariant-loop-done
invariant-loop-done l = (l.done ≤ l.count + 15) × (length l.bytes ≡ length l.fn.bytes)
    × (take (l.at + l.done) l.bytes ≡ take l.at l.fn.bytes ++ replicate l.done 32)

abbrev pub decreases-loop-done : goal.decreases-loop-done
decreases-loop-done l = l.count + 16 - l.done
