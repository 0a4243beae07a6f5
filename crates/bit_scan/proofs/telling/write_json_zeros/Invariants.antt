use Rattle.std.proofs.Common.{◌+◌, ◌-◌}
use Rattle.std.proofs.Math.ListN.{replicate}
use Rattle.bit_scan.specs.Json.{joined_from, number_json}
use Rattle.bit_scan.proofs.Prints.{Goes}
use Rattle.bit_scan.proofs.telling.write_json_zeros.Given as goal

abbrev pub invariant-loop-index : goal.invariant-loop-index
invariant-loop-index g l = Goes (joined_from number_json l.first (replicate l.count 0)) l.fn.printer (joined_from number_json (l.first + l.index) (replicate (l.count - l.index) 0)) l.printer
