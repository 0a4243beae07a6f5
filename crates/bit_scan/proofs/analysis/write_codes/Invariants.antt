use Rattle.bit_scan.proofs.Prints.{Goes}
use Rattle.bit_scan.proofs.Reports.{lines_of_codes}
use Rattle.bit_scan.proofs.analysis.write_codes.Given as goal

abbrev pub invariant-loop-code : goal.invariant-loop-code
invariant-loop-code g l = Goes (lines_of_codes l.format l.id l.codes) l.fn.printer (lines_of_codes l.format l.id l.code-iterator) l.printer
