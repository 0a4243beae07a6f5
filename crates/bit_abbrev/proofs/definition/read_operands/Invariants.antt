use Rattle.std.proofs.Common.{List}
use Rattle.bit_grammar.specs.declared.op.Op.{Op}
use Rattle.bit_abbrev.proofs.Operands.{Defines}
use Rattle.bit_abbrev.proofs.definition.read_operands.Given as goal

abbrev pub invariant-loop-i : goal.invariant-loop-i
invariant-loop-i g l = (ops : List Op) × g.T.OpTaker.added l.fn.list ops l.list × Defines l.fn.shapes l.count l.fn.reader l.i l.place l.reader ops
