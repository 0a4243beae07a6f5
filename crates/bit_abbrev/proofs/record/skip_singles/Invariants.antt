use Rattle.std.proofs.Common.{◌≡◌, ℕ, List, true}
use Rattle.bit_grammar.specs.declared.op.Op.{Op}
use Rattle.bit_abbrev.proofs.Records.{SkipsTo}
use Rattle.bit_abbrev.proofs.record.skip_singles.Given as goal

abbrev pub invariant-loop-op : goal.invariant-loop-op
invariant-loop-op g l = record {
  live : (g.B.Bits.as_reader l.bits).live ≡ true;
  far : (room : ℕ) (tail : List Op) (before : List ℕ) → SkipsTo room l.ops tail (g.B.Bits.as_reader l.fn.bits) l.op-index (g.B.Bits.as_reader l.bits) before;
}
