-- What writing the report of an input does.
use Rattle.std.specs.Prelude.{◌≡◌, ◌⊎◌, Result, Ok, Err}
use Rattle.bit_grammar.specs.Blocks.{Limits}
use Rattle.bit_grammar.specs.Tally.{Tally}
use Rattle.bit_fields.specs.declared.fault.Fault.{Fault}
use Rattle.bit_fields.specs.declared.fault.Fault.TheVariants.{Refused, Read, Write, Memory, OutputTooLong, Failed}
use Rattle.bit_fields.specs.Devices.{Incoming, Outgoing}
use Rattle.bit_events.specs.Reading.{ReadsWhole}
use Rattle.bit_scan.specs.declared.format.Format.{Format}
use Rattle.bit_scan.specs.declared.format.Format.TheVariants.{Text}
use Rattle.bit_scan.specs.Analysing.{HasTally}
use Rattle.bit_scan.specs.Styles.{report_as}
use Rattle.bit_scan.specs.Written.{WritesText}

-- an input was analysed, or not
abbrev pub ReadsTally : Limits → Incoming → Result Tally Fault → Incoming → Type 0
ReadsTally limits = ReadsWhole (HasTally limits) limits

-- an input was analysed, and this happened to its report
abbrev pub ReadsAndReports : Format → Limits → Incoming → Outgoing → Result (Unit {0}) Fault
    → Incoming → Outgoing → Type 0
ReadsAndReports format limits i old answer now new = (tally : Tally)
    × ReadsTally limits i (Ok tally) now × WritesText (report_as format tally) old answer new

-- an input was not analysed, and nothing was written
abbrev pub ReportsNothing : Limits → Incoming → Outgoing → Fault → Incoming → Outgoing → Type 0
ReportsNothing limits i old fault now new = ReadsTally limits i (Err fault) now × (new ≡ old)

-- The sink took the report of the input's analysis, in this format, or a prefix of it; or the input was not analysed,
-- and the sink took nothing.
abbrev pub ReportsAs : Format → Limits → Incoming → Outgoing → Result (Unit {0}) Fault → Incoming
    → Outgoing → Type 0
ReportsAs format limits i old (Ok _) now new = ReadsAndReports format limits i old (Ok tt) now new
ReportsAs format limits i old (Err Write) now new = ReadsAndReports format limits i old (Err Write)
    now new
ReportsAs format limits i old (Err Memory) now new = ReportsNothing limits i old Memory now new
    ⊎ ReadsAndReports format limits i old (Err Memory) now new
ReportsAs format limits i old (Err (Refused reason bit)) now new = ReportsNothing limits i old
    (Refused reason bit) now new
ReportsAs format limits i old (Err Read) now new = ReportsNothing limits i old Read now new
ReportsAs format limits i old (Err OutputTooLong) now new = ⊥
ReportsAs format limits i old (Err Failed) now new = ⊥

-- the same of the report as text
abbrev pub Reports : Limits → Incoming → Outgoing → Result (Unit {0}) Fault → Incoming → Outgoing
    → Type 0
Reports limits = ReportsAs Text limits
