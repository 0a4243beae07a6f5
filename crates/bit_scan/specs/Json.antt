-- The lines of events and of a report as JSON, one object a line, as ASCII codes. This project's own.
use Rattle.std.specs.Prelude.{ℕ, zero, suc, ◌+◌, ◌-◌, ◌^◌, List, [], ◌∷◌, ◌++◌, length, map, flat_map, codes, decimal, nat_lt, if◌then◌else◌, Ok, Err}
use Rattle.std.specs.Borrow.{Bor}
use Rattle.std.specs.List.{AllByRecursion}
use Rattle.bit_grammar.specs.declared.op.Op.{Op}
use Rattle.bit_grammar.specs.declared.op.Op.TheVariants.{Literal, Fixed, Vbr, Array, Char6, Blob}
use Rattle.bit_grammar.specs.declared.reason.Reason.{Reason}
use Rattle.bit_grammar.specs.declared.value_display.ValueDisplay.{ValueDisplay}
use Rattle.bit_grammar.specs.declared.value_display.ValueDisplay.TheVariants.{Shown, LeftOut}
use Rattle.bit_grammar.specs.Reasons.{name_of}
use Rattle.bit_grammar.specs.Terms.{Head}
use Rattle.bit_grammar.specs.Machine.{Event, enters, defines, notes, leaves, Ending, accepted, broke}
use Rattle.bit_grammar.specs.Outlook.{Outlook}
use Rattle.bit_grammar.specs.Steps.{open_after}
use Rattle.bit_grammar.specs.Tally.{BlockTally, CodeTally, Tally, stream_begin}
use Rattle.bit_grammar.specs.Texts.{hex_text, magic_bytes}
use Rattle.bit_scan.specs.ObjectLines.{IsPlain}

-- ---- objects

-- A number: its digits. From 2^53 on these are a string, because many readers of JSON round greater numbers.
abbrev pub number_json : ℕ → List ℕ
number_json number = if nat_lt number (2 ^ 53) then decimal number
    else (codes "\"" ++ decimal number ++ codes "\"")

-- a key and its number
abbrev pub Field : Type 0
Field = List ℕ × ℕ

-- a field after another one
abbrev pub field_json : Field → List ℕ
field_json field = (codes ",\"" ++ field.0 ++ codes "\":") ++ number_json field.1

-- an object up to its end: its kind and numbers
abbrev pub object_front : (kind : List ℕ) → List Field → List ℕ
object_front kind fields = (codes "{\"kind\":\"" ++ kind ++ codes "\"")
    ++ flat_map field_json fields

abbrev pub object : (kind : List ℕ) → List Field → List ℕ
object kind fields = object_front kind fields ++ codes "}"

-- a line that is such an object
abbrev pub object_line : (kind : List ℕ) → List Field → List ℕ
object_line kind fields = object kind fields ++ codes "\n"

-- a line that is an object with a list after the numbers
abbrev pub list_front : (kind : List ℕ) → List Field → (key : List ℕ) → List ℕ
list_front kind fields key = object_front kind fields ++ (codes ",\"" ++ key ++ codes "\":[")

abbrev pub list_line : (kind : List ℕ) → List Field → (key list : List ℕ) → List ℕ
list_line kind fields key list = list_front kind fields key ++ (list ++ codes "]}\n")

-- an object with a text after the numbers, up to the text, and up to its end
abbrev pub text_front : (kind : List ℕ) → List Field → (key : List ℕ) → List ℕ
text_front kind fields key = object_front kind fields ++ (codes ",\"" ++ key ++ codes "\":\"")

abbrev pub text_part : (kind : List ℕ) → List Field → (key text : List ℕ) → List ℕ
text_part kind fields key text = text_front kind fields key ++ (text ++ codes "\"")

-- a line that is such an object
abbrev pub text_line : (kind : List ℕ) → List Field → (key text : List ℕ) → List ℕ
text_line kind fields key text = text_part kind fields key text ++ codes "}\n"

-- ---- lists

-- the text before an item: empty before the first, and a comma before each other one
abbrev pub comma : (place : ℕ) → List ℕ
comma zero = []
comma (suc place) = codes ","

-- a number behind another one
abbrev pub item_json : ℕ → List ℕ
item_json number = 44 ∷ number_json number

-- items from a place on
abbrev pub joined_from : {A : Type 0} → (A → List ℕ) → (place : ℕ) → List A → List ℕ
joined_from text place [] = []
joined_from text place (x ∷ xs) = (comma place ++ text x) ++ joined_from text (place + 1) xs

abbrev pub joined : {A : Type 0} → (A → List ℕ) → List A → List ℕ
joined text xs = joined_from text 0 xs

-- ---- events

-- an operand
abbrev pub op_json : Op → List ℕ
op_json (Literal value) = object (codes "literal") ((codes "value", value) ∷ [])
op_json (Fixed width) = object (codes "fixed") ((codes "width", width) ∷ [])
op_json (Vbr width) = object (codes "vbr") ((codes "width", width) ∷ [])
op_json Array = object (codes "array") []
op_json Char6 = object (codes "char6") []
op_json Blob = object (codes "blob") []

-- a record with these numbers, and its values unless they are left out
abbrev pub noted_json : ValueDisplay → List Field → List ℕ → List ℕ
noted_json Shown fields values = list_line (codes "record") fields (codes "values")
    (joined number_json values)
noted_json LeftOut fields values = object_line (codes "record") fields

-- the numbers of a record, as the code makes them
abbrev pub noted_fields : (around first code abbreviation count : ℕ) → List Field
noted_fields around first code abbreviation count = (codes "bit", first) ∷ (codes "depth", around)
    ∷ (codes "code", code) ∷ (codes "abbreviation", abbreviation) ∷ (codes "count", count) ∷ []

-- the same of a block, and of a definition or a block's end
abbrev pub opened_fields : (around id width first body : ℕ) → List Field
opened_fields around id width first body = (codes "bit", first) ∷ (codes "depth", around)
    ∷ (codes "id", id) ∷ (codes "width", width) ∷ (codes "body", body) ∷ []

abbrev pub place_fields : (around bit : ℕ) → List Field
place_fields around bit = (codes "bit", bit) ∷ (codes "depth", around) ∷ []

-- The line of an event, with `around` blocks open before it. It has the content of the line of text, and the number of open blocks.
abbrev pub event_json : ValueDisplay → (around : ℕ) → Event → List ℕ
event_json values around (enters o) = object_line (codes "block")
    ((codes "bit", o.first) ∷ (codes "depth", around) ∷ (codes "id", o.id)
    ∷ (codes "width", o.width) ∷ (codes "body", o.body) ∷ [])
event_json values around (defines mark) = list_line (codes "define")
    ((codes "bit", mark.first) ∷ (codes "depth", around) ∷ []) (codes "operands")
    (joined op_json mark.ops)
event_json values around (notes mark) = noted_json values
    ((codes "bit", mark.first) ∷ (codes "depth", around) ∷ (codes "code", mark.code)
    ∷ (codes "abbreviation", mark.abbreviation) ∷ (codes "count", length mark.values) ∷ [])
    mark.values
event_json values around (leaves after) = object_line (codes "end")
    ((codes "bit", after) ∷ (codes "depth", around - 1) ∷ [])

-- the line of the magic, at the bit where the stream begins
abbrev pub head_json : Head → List ℕ
head_json head = text_line (codes "magic") ((codes "bit", stream_begin head.wrapper) ∷ [])
    (codes "magic") (flat_map hex_text (magic_bytes head.magic))

-- the line of a refusal
abbrev pub refusal_json : Reason → (bit : ℕ) → List ℕ
refusal_json reason bit = text_line (codes "refused") ((codes "bit", bit) ∷ []) (codes "reason")
    (name_of reason)

-- the lines at the end: none if all is accepted
abbrev pub ending_json : Ending → List ℕ
ending_json (accepted bit) = []
ending_json (broke fault) = refusal_json fault.reason fault.bit

-- the lines of events in order, with `around` blocks open before the first, and of their end
abbrev pub events_json : ValueDisplay → (around : ℕ) → List Event → Ending → List ℕ
events_json values around [] end = ending_json end
events_json values around (event ∷ events) end = event_json values around event
    ++ events_json values (open_after event around) events end

-- the lines of an outlook: of its magic and its events, and of a refusal at the end
abbrev pub outlook_json : ValueDisplay → Outlook → List ℕ
outlook_json values (Ok x) = head_json x.0 ++ events_json values 0 x.1.0 x.1.1
outlook_json values (Err fault) = refusal_json fault.reason fault.bit

-- ---- the report

-- the line of a code in the blocks with an id
abbrev pub code_json : (id : ℕ) → CodeTally → List ℕ
code_json id row = object_line (codes "record")
    ((codes "block", id) ∷ (codes "code", row.code) ∷ (codes "count", row.count)
    ∷ (codes "bits", row.bits) ∷ [])

-- the line of a block id, without those of its codes
abbrev pub row_line_json : BlockTally → List ℕ
row_line_json row = object_line (codes "block")
    ((codes "id", row.id) ∷ (codes "count", row.blocks) ∷ (codes "bits", row.bits)
    ∷ (codes "definitions", row.definitions) ∷ (codes "records", row.records)
    ∷ (codes "abbreviated", row.abbreviated) ∷ (codes "values", row.values) ∷ [])

abbrev pub row_json : BlockTally → List ℕ
row_json row = row_line_json row ++ flat_map (code_json row.id) row.codes

-- the line of the stream
abbrev pub stream_json : (magic bits : ℕ) → List ℕ
stream_json magic bits = text_line (codes "stream") ((codes "bits", bits) ∷ []) (codes "magic")
    (flat_map hex_text (magic_bytes magic))

-- a line for the stream, and for each row a line and one for each of its codes
abbrev pub report_json : Tally → List ℕ
report_json tally = stream_json tally.magic tally.bits ++ flat_map row_json tally.rows

-- ---- as the code makes them

-- no key needs an escape
abbrev pub ArePlain : List (Bor (List ℕ) × ℕ) → Type 0
ArePlain fields = AllByRecursion (λ (field : Bor (List ℕ) × ℕ). IsPlain field.0.now) fields

-- the keys and numbers of a slice
abbrev pub fields_told : List (Bor (List ℕ) × ℕ) → List Field
fields_told fields = map (λ (field : Bor (List ℕ) × ℕ). (field.0.now, field.1)) fields
