use Rattle.std.proofs.Common.{ℕ, ◌<◌, ◌≢◌}
use Rattle.bit_grammar.specs.FormatDefinition.{op_at}
use Rattle.bit_grammar.specs.declared.op.Op.TheVariants.{Vbr}
use Rattle.bit_abbrev.proofs.layout.have_chunks.Given as goal

abbrev pub invariant-loop-op : goal.invariant-loop-op
invariant-loop-op l = (i : ℕ) → i < l.op-index → op_at l.ops i ≢ Vbr 0
