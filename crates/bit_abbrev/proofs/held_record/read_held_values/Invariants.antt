use Rattle.std.proofs.Common.{◌≡◌, true, length}
use Rattle.std.specs.List.{AllByRecursion}
use Rattle.bit_grammar.specs.Definition.{in_order}
use Rattle.bit_grammar.specs.FormatDefinition.{HasLawfulValue}
use Rattle.bit_grammar.specs.declared.op.Place.TheVariants.{Later}
use Rattle.bit_abbrev.specs.HeldOps.{ops_in}
use Rattle.bit_abbrev.specs.Values.{Gains}
use Rattle.bit_abbrev.proofs.HeldRecords.{FarHeld}
use Rattle.bit_abbrev.proofs.held_record.read_held_values.Given as goal

abbrev pub invariant-loop-op : goal.invariant-loop-op
invariant-loop-op g l = record {
  live : (g.B.Bits.as_reader l.bits).live ≡ true;
  order : in_order Later (ops_in l.left) ≡ true;
  lawful : AllByRecursion HasLawfulValue (ops_in l.left);
  far : Gains g.V.ValueTaker.took l.fn.values l.values (FarHeld l.room (ops_in l.held) (ops_in l.left) (g.B.Bits.as_reader l.fn.bits) (g.B.Bits.as_reader l.bits));
}

abbrev pub decreases-loop-op : goal.decreases-loop-op
decreases-loop-op g l = length l.left
