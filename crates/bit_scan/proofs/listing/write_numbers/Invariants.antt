use Rattle.std.proofs.Common.{◌-◌, ◌≤◌, length, drop}
use Rattle.bit_grammar.specs.Texts.{values_text}
use Rattle.bit_scan.proofs.Prints.{Goes}
use Rattle.bit_scan.proofs.listing.write_numbers.Given as goal

abbrev pub invariant-loop-place : goal.invariant-loop-place
invariant-loop-place g l = (l.place ≤ length l.numbers) × Goes (values_text l.numbers) l.fn.printer (values_text (drop l.place l.numbers)) l.printer

abbrev pub decreases-loop-place : goal.decreases-loop-place
decreases-loop-place g l = length l.numbers - l.place
