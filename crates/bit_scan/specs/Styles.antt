-- The lines of events and of a report in each format.
use Rattle.std.specs.Prelude.{ℕ, List, [], ◌∷◌, ◌++◌}
use Rattle.bit_grammar.specs.declared.reason.Reason.{Reason}
use Rattle.bit_grammar.specs.declared.value_display.ValueDisplay.{ValueDisplay}
use Rattle.bit_grammar.specs.EventTexts.{event_line, event_lines, head_line, outlook_text}
use Rattle.bit_grammar.specs.Terms.{Head}
use Rattle.bit_grammar.specs.Machine.{Event, Told}
use Rattle.bit_grammar.specs.Outlook.{Outlook}
use Rattle.bit_grammar.specs.Steps.{open_after}
use Rattle.bit_grammar.specs.Tally.{BlockTally, CodeTally, Tally}
use Rattle.bit_grammar.specs.Texts.{code_text, row_text, report_of}
use Rattle.bit_fields.specs.declared.fault.Fault.{Fault}
use Rattle.bit_fields.specs.declared.fault.Fault.TheVariants.{Refused}
use Rattle.bit_scan.specs.declared.format.EventStyle.{EventStyle}
use Rattle.bit_scan.specs.declared.format.Format.{Format}
use Rattle.bit_scan.specs.declared.format.Format.TheVariants.{Text, JsonLines}
use Rattle.bit_scan.specs.declared.rows.BlockRow.{BlockRow}
use Rattle.bit_scan.specs.Json.{code_json, event_json, events_json, head_json, outlook_json, refusal_json, report_json, row_json, row_line_json, stream_json}
use Rattle.bit_scan.specs.Lines.{block_row_text, report_head}
use Rattle.bit_scan.specs.Rows.{block_tally}

-- the line of the magic
abbrev pub head_as : Format → Head → List ℕ
head_as Text head = head_line head
head_as JsonLines head = head_json head

-- the line of an event, with `around` blocks open before it
abbrev pub event_as : Format → ValueDisplay → (around : ℕ) → Event → List ℕ
event_as Text values around event = event_line values around event
event_as JsonLines values around event = event_json values around event

-- the lines of events, with `around` blocks open before the first, and of their end if it has one
abbrev pub told_as : Format → ValueDisplay → (around : ℕ) → Told → List ℕ
told_as Text values around told = event_lines values around told.0
told_as JsonLines values around told = events_json values around told.0 told.1

-- the line of a refusal, and of a fault, if it has one
abbrev pub refusal_as : Format → Reason → (bit : ℕ) → List ℕ
refusal_as Text reason bit = []
refusal_as JsonLines reason bit = refusal_json reason bit

abbrev pub fault_as : Format → Fault → List ℕ
fault_as format (Refused reason bit) = refusal_as format reason bit
fault_as format fault = []

-- the lines of an outlook
abbrev pub outlook_as : Format → ValueDisplay → Outlook → List ℕ
outlook_as Text values told = outlook_text values told
outlook_as JsonLines values told = outlook_json values told

-- an event's line, and the lines of events and of an input, in a style
abbrev pub styled_event : EventStyle → (around : ℕ) → Event → List ℕ
styled_event style around event = event_as style.format style.values around event

abbrev pub styled_lines : EventStyle → (around : ℕ) → List Event → List ℕ
styled_lines style around [] = []
styled_lines style around (event ∷ events) = styled_event style around event
    ++ styled_lines style (open_after event around) events

-- the same with the line of their end, if it has one
abbrev pub styled_told : EventStyle → (around : ℕ) → Told → List ℕ
styled_told style around told = told_as style.format style.values around told

abbrev pub styled_outlook : EventStyle → Outlook → List ℕ
styled_outlook style told = outlook_as style.format style.values told

-- ---- the report

-- the line of a code in the blocks with an id
abbrev pub code_as : Format → (id : ℕ) → CodeTally → List ℕ
code_as Text id row = code_text row
code_as JsonLines id row = code_json id row

-- the line of a block id, without those of its codes, and with them
abbrev pub row_line_as : {S H : Type 0} → Format → ℕ × BlockRow S H → List ℕ
row_line_as Text e = block_row_text e
row_line_as JsonLines e = row_line_json (block_tally e)

abbrev pub row_as : Format → BlockTally → List ℕ
row_as Text row = row_text row
row_as JsonLines row = row_json row

-- the line of the stream
abbrev pub stream_as : Format → (magic bits : ℕ) → List ℕ
stream_as Text magic bits = report_head magic bits
stream_as JsonLines magic bits = stream_json magic bits

-- the report
abbrev pub report_as : Format → Tally → List ℕ
report_as Text tally = report_of tally
report_as JsonLines tally = report_json tally
