use Rattle.std.proofs.Common.{length}
use Rattle.bit_grammar.specs.Texts.{values_text}
use Rattle.bit_scan.proofs.Prints.{Goes}
use Rattle.bit_scan.proofs.listing.write_wide.Given as goal

abbrev pub invariant-loop-value : goal.invariant-loop-value
invariant-loop-value g l = Goes (values_text l.fn.values) l.fn.printer (values_text l.values) l.printer

abbrev pub decreases-loop-value : goal.decreases-loop-value
decreases-loop-value g l = length l.values
