use Rattle.std.proofs.Common.{◌≡◌, ◌+◌, ◌*◌, ◌≤◌, drop}
use Rattle.bit_grammar.specs.Size.{values_length}
use Rattle.bit_norm.proofs.lengths.chunks_of_values.Given as goal

abbrev pub invariant-loop-value : goal.invariant-loop-value
invariant-loop-value l = record {
  so_far : 6 * l.chunks + values_length (drop l.value-index l.values) ≡ values_length l.values;
  few : l.chunks ≤ 13 * l.value-index;
}
