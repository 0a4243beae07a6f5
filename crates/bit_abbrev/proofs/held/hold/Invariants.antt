use Rattle.std.proofs.Common.{take}
use Rattle.bit_abbrev.specs.HeldOps.{Holds}
use Rattle.bit_abbrev.proofs.held.hold.Given as goal

abbrev pub invariant-loop-op : goal.invariant-loop-op
invariant-loop-op l = Holds l.fn.held.items l.held.items (take l.op-index l.ops)
