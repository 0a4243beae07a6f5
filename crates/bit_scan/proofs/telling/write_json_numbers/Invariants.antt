use Rattle.std.proofs.Common.{◌+◌, ◌-◌, ◌≤◌, length, drop}
use Rattle.bit_scan.specs.Json.{joined_from, number_json}
use Rattle.bit_scan.proofs.Prints.{Goes}
use Rattle.bit_scan.proofs.telling.write_json_numbers.Given as goal

abbrev pub invariant-loop-place : goal.invariant-loop-place
invariant-loop-place g l = (l.place ≤ length l.numbers) × Goes (joined_from number_json l.first l.numbers) l.fn.printer (joined_from number_json (l.first + l.place) (drop l.place l.numbers)) l.printer

abbrev pub decreases-loop-place : goal.decreases-loop-place
decreases-loop-place g l = length l.numbers - l.place
