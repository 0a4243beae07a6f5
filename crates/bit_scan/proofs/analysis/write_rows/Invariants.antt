use Rattle.bit_scan.proofs.Prints.{Goes}
use Rattle.bit_scan.proofs.Reports.{lines_of_rows}
use Rattle.bit_scan.proofs.analysis.write_rows.Given as goal

abbrev pub invariant-loop-id : goal.invariant-loop-id
invariant-loop-id g l = Goes (lines_of_rows l.format l.rows.entries) l.fn.printer (lines_of_rows l.format l.id-iterator) l.printer
