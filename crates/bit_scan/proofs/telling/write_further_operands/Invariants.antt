use Rattle.std.proofs.Common.{drop}
use Rattle.std.specs.Prelude.{flat_map}
use Rattle.bit_scan.proofs.Parted.{further_text}
use Rattle.bit_scan.proofs.Prints.{Goes}
use Rattle.bit_scan.proofs.telling.write_further_operands.Given as goal

abbrev pub invariant-loop-op : goal.invariant-loop-op
invariant-loop-op g l = Goes (flat_map further_text l.ops) l.fn.printer (flat_map further_text (drop l.op-index l.ops)) l.printer
