-- What a line of JSON tells of an event, and lines whose numbers are below a bound.
use Rattle.std.specs.Prelude.{ℕ, ◌<◌, List, [], ◌∷◌, length, Ok, Err}
use Rattle.std.specs.List.{AllByRecursion}
use Rattle.bit_grammar.specs.declared.op.Op.{Op}
use Rattle.bit_grammar.specs.declared.op.Op.TheVariants.{Literal, Fixed, Vbr, Array, Char6, Blob}
use Rattle.bit_grammar.specs.Machine.{Event, enters, defines, notes, leaves, Ending, accepted, broke}
use Rattle.bit_grammar.specs.Outlook.{Outlook}
use Rattle.bit_grammar.specs.Steps.{open_after}
use Rattle.bit_grammar.specs.Tally.{BlockTally, CodeTally, Tally, stream_begin}

-- all but the bit after a definition or a record
abbrev pub line_tells : Event → Event
line_tells (enters o) = enters o
line_tells (defines mark) = defines (record mark { after = 0 })
line_tells (notes mark) = notes (record mark { after = 0 })
line_tells (leaves after) = leaves after

-- the number of an operand is below the bound
abbrev pub OpFits : (bound : ℕ) → Op → Type 0
OpFits bound (Literal value) = value < bound
OpFits bound (Fixed width) = width < bound
OpFits bound (Vbr width) = width < bound
OpFits bound Array = Unit {0}
OpFits bound Char6 = Unit {0}
OpFits bound Blob = Unit {0}

-- so is each number that the line of an event tells
abbrev pub EventFits : (bound : ℕ) → Event → Type 0
EventFits bound (enters o) = (o.first < bound) × (o.id < bound) × (o.width < bound)
    × (o.body < bound)
EventFits bound (defines mark) = (mark.first < bound) × AllByRecursion (OpFits bound) mark.ops
EventFits bound (notes mark) = (mark.first < bound) × (mark.code < bound)
    × (mark.abbreviation < bound) × (length mark.values < bound)
    × AllByRecursion (λ value. value < bound) mark.values
EventFits bound (leaves after) = after < bound

-- so is each number of the lines of events, with `around` blocks open before the first, and of their end
abbrev pub EndFits : (bound : ℕ) → Ending → Type 0
EndFits bound (accepted bit) = Unit {0}
EndFits bound (broke fault) = fault.bit < bound

abbrev pub EventsFit : (bound around : ℕ) → List Event → Ending → Type 0
EventsFit bound around [] end = EndFits bound end
EventsFit bound around (event ∷ events) end = (around < bound) × EventFits bound event
    × EventsFit bound (open_after event around) events end

-- of an outlook
abbrev pub OutlookFits : (bound : ℕ) → Outlook → Type 0
OutlookFits bound (Ok x) = (stream_begin x.0.wrapper < bound) × EventsFit bound 0 x.1.0 x.1.1
OutlookFits bound (Err fault) = fault.bit < bound

-- and of a report
abbrev pub CodeRowFits : (bound : ℕ) → CodeTally → Type 0
CodeRowFits bound row = (row.code < bound) × (row.count < bound) × (row.bits < bound)

abbrev pub BlockRowFits : (bound : ℕ) → BlockTally → Type 0
BlockRowFits bound row = (row.id < bound) × (row.blocks < bound) × (row.bits < bound)
    × (row.definitions < bound) × (row.records < bound) × (row.abbreviated < bound)
    × (row.values < bound) × AllByRecursion (CodeRowFits bound) row.codes

abbrev pub ReportFits : (bound : ℕ) → Tally → Type 0
ReportFits bound tally = (tally.bits < bound) × AllByRecursion (BlockRowFits bound) tally.rows
