use Rattle.std.proofs.Common.{drop}
use Rattle.bit_grammar.specs.Normal.{put, values_bits}
use Rattle.bit_norm.proofs.Going.{Goes}
use Rattle.bit_norm.proofs.writing.write_values.Given as goal

abbrev pub invariant-loop-value : goal.invariant-loop-value
invariant-loop-value g l = Goes (values_bits l.values) l.fn.writer (put (values_bits (drop l.value-index l.values))) l.writer
