use Rattle.std.proofs.Common.{◌^◌}
use Rattle.bit_grammar.specs.Outlook.{outlook}
use Rattle.bit_grammar.specs.Tally.{tally_of}
use Rattle.bit_scan.proofs.EventReadings.{outlook_fits}
use Rattle.bit_scan.proofs.Exact.{report_fits}
use Rattle.bit_scan.proofs.Objects.{event_is, outlook_are, report_are}
use Rattle.bit_scan.proofs.Determined.{event_told}
use Rattle.bit_scan.proofs.laws.json_lines.Goals as goal

pub returns-clause-event : goal.returns-clause-event
returns-clause-event c = event_is

pub returns-clause-events : goal.returns-clause-events
returns-clause-events c = outlook_are

pub returns-clause-report : goal.returns-clause-report
returns-clause-report c = report_are

pub returns-clause-input : goal.returns-clause-input
returns-clause-input c limits values bytes capped = outlook_are (2 ^ 64) values (outlook limits bytes) (outlook_fits limits bytes capped)

pub returns-clause-analysis : goal.returns-clause-analysis
returns-clause-analysis c limits bytes m capped spelled = report_are (2 ^ 64) (tally_of m) (report_fits limits bytes m capped spelled)

pub returns-clause-told : goal.returns-clause-told
returns-clause-told c = event_told
