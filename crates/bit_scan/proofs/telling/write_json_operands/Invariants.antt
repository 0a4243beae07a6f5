use Rattle.std.proofs.Common.{drop}
use Rattle.bit_scan.specs.Json.{joined, joined_from, op_json}
use Rattle.bit_scan.proofs.Prints.{Goes}
use Rattle.bit_scan.proofs.telling.write_json_operands.Given as goal

abbrev pub invariant-loop-place : goal.invariant-loop-place
invariant-loop-place g l = Goes (joined op_json l.ops) l.fn.printer (joined_from op_json l.place (drop l.place l.ops)) l.printer
