use Rattle.std.proofs.Common.{◌≡◌, ◌-◌, ◌≤◌, ◌++◌, length, take}
use Rattle.bit_grammar.specs.Normal.{values_bits}
use Rattle.bit_norm.specs.Writing.{record_front}
use Rattle.bit_norm.proofs.form_builder.add_pieces.Given as goal

abbrev pub invariant-loop-done : goal.invariant-loop-done
invariant-loop-done l = record {
  within : l.done ≤ length l.values;
  text : l.text ≡ (l.fn.text ++ record_front l.code (length l.values)) ++ values_bits (take l.done l.values);
}

abbrev pub decreases-loop-done : goal.decreases-loop-done
decreases-loop-done l = length l.values - l.done
