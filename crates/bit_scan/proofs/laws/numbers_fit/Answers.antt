use Rattle.bit_scan.proofs.EventReadings.{outlook_fits}
use Rattle.bit_scan.proofs.Exact.{report_fits}
use Rattle.bit_scan.proofs.laws.numbers_fit.Goals as goal

pub returns-clause-told : goal.returns-clause-told
returns-clause-told c = outlook_fits

pub returns-clause-report : goal.returns-clause-report
returns-clause-report c = report_fits
