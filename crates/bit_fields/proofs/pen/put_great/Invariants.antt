use Rattle.std.proofs.Common.{◌≤◌}
use Rattle.bit_grammar.specs.FormatFields.{shortest}
use Rattle.bit_fields.proofs.Pens.{Storing}
use Rattle.bit_fields.proofs.pen.put_great.Given as goal

abbrev pub invariant-loop-rest : goal.invariant-loop-rest
invariant-loop-rest l = record {
  some : 1024 ≤ l.rest;
  stored : Storing l.at l.fn.bytes l.pen l.bytes (shortest 6 l.value) (shortest 6 l.rest);
}

abbrev pub decreases-loop-rest : goal.decreases-loop-rest
decreases-loop-rest l = l.rest
