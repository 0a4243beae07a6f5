use Rattle.std.proofs.Common.{◌≡◌, ◌+◌, ◌≤◌, length}
use Rattle.bit_grammar.specs.Definition.{in_order}
use Rattle.bit_grammar.specs.Record.{singles}
use Rattle.bit_grammar.specs.declared.op.Place.TheVariants.{Later}
use Rattle.bit_abbrev.specs.HeldOps.{ops_in}
use Rattle.bit_abbrev.proofs.held_record.singles_in.Given as goal

abbrev pub invariant-loop-count : goal.invariant-loop-count
invariant-loop-count l = record {
  order : in_order Later (ops_in l.held) ≡ in_order Later (ops_in l.left);
  many : l.count + singles (ops_in l.left) ≡ singles (ops_in l.held);
  within : l.count + length l.left ≤ length l.held;
}
