-- The report of a whole input.
use Rattle.std.proofs.Common.{refl, Result, Ok, Err, inl, inr}
use Rattle.bit_grammar.specs.Blocks.{Limits}
use Rattle.bit_grammar.specs.Tally.{Tally}
use Rattle.bit_fields.specs.declared.fault.Fault.{Fault}
use Rattle.bit_fields.specs.declared.fault.Fault.TheVariants.{Refused, Read, Write, Memory, OutputTooLong, Failed}
use Rattle.bit_fields.specs.Devices.{Incoming, Outgoing}
use Rattle.bit_scan.specs.declared.format.Format.{Format}
use Rattle.bit_scan.specs.Styles.{report_as}
use Rattle.bit_scan.specs.Written.{WritesText}
use Rattle.bit_scan.specs.Reporting.{ReadsTally, ReportsAs}

-- an input that was not analysed
pub not_reported : (format : Format) (limits : Limits) (i now : Incoming) (o : Outgoing) (fault : Fault) → ReadsTally limits i (Err fault) now → ReportsAs format limits i o (Err fault) now o
not_reported format limits i now o (Refused reason bit) r = (r, refl)
not_reported format limits i now o Read r = (r, refl)
not_reported format limits i now o Memory r = inl (r, refl)
not_reported format limits i now o Write r = absurd r
not_reported format limits i now o OutputTooLong r = absurd r
not_reported format limits i now o Failed r = r

-- one that was
pub reported : (format : Format) (limits : Limits) (i now : Incoming) (old new : Outgoing) (tally : Tally) (answer : Result (Unit {0}) Fault) → ReadsTally limits i (Ok tally) now → WritesText (report_as format tally) old answer new → ReportsAs format limits i old answer now new
reported format limits i now old new tally (Ok _) r w = (tally, r, w)
reported format limits i now old new tally (Err Write) r w = (tally, r, w)
reported format limits i now old new tally (Err Memory) r w = inr (tally, r, w)
reported format limits i now old new tally (Err (Refused reason bit)) r w = absurd w
reported format limits i now old new tally (Err Read) r w = absurd w
reported format limits i now old new tally (Err OutputTooLong) r w = absurd w
reported format limits i now old new tally (Err Failed) r w = absurd w
