use Rattle.std.proofs.Common.{◌≡◌, ◌+◌, length}
use Rattle.bit_scan.specs.Json.{joined, joined_from, number_json}
use Rattle.bit_scan.proofs.Prints.{Goes}
use Rattle.bit_scan.proofs.telling.write_json_wide.Given as goal

abbrev pub invariant-loop-value : goal.invariant-loop-value
invariant-loop-value g l = (l.place + length l.values ≡ length l.fn.values) × Goes (joined number_json l.fn.values) l.fn.printer (joined_from number_json l.place l.values) l.printer

abbrev pub decreases-loop-value : goal.decreases-loop-value
decreases-loop-value g l = length l.values
