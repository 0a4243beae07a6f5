use Rattle.std.proofs.Common.{◌-◌, ◌≤◌, length, drop}
use Rattle.bit_grammar.specs.Texts.{values_text}
use Rattle.bit_scan.proofs.Prints.{Goes}
use Rattle.bit_scan.proofs.listing.write_bytes.Given as goal

abbrev pub invariant-loop-place : goal.invariant-loop-place
invariant-loop-place g l = (l.place ≤ length l.bytes) × Goes (values_text l.bytes) l.fn.printer (values_text (drop l.place l.bytes)) l.printer

abbrev pub decreases-loop-place : goal.decreases-loop-place
decreases-loop-place g l = length l.bytes - l.place
