use Rattle.std.proofs.Common.{◌-◌}
use Rattle.std.proofs.Math.ListN.{replicate}
use Rattle.bit_grammar.specs.Texts.{values_text}
use Rattle.bit_scan.proofs.Prints.{Goes}
use Rattle.bit_scan.proofs.listing.write_zeros.Given as goal

abbrev pub invariant-loop : goal.invariant-loop
invariant-loop g l = Goes (values_text (replicate l.count 0)) l.fn.printer (values_text (replicate (l.count - l.counter) 0)) l.printer
