use Rattle.std.proofs.Common.{◌≡◌, ◌++◌, drop, map}
use Rattle.bit_c.specs.Stepping.{operand_told}
use Rattle.bit_c.proofs.operand.add_operands.Given as goal

abbrev pub invariant-loop-op : goal.invariant-loop-op
invariant-loop-op l = l.initial.out.items ++ map operand_told l.ops ≡ l.out.items ++ map operand_told (drop l.op-index l.ops)
