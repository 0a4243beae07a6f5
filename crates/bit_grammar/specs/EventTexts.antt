-- The events of an input as lines of text, as ASCII codes, with their positions, also before a fault. This project's own.
use Rattle.std.specs.Prelude.{ℕ, ◌-◌, List, [], ◌∷◌, ◌++◌, length, flat_map, codes, decimal, Ok, Err}
use Rattle.bit_grammar.specs.declared.op.Op.{Op}
use Rattle.bit_grammar.specs.declared.op.Op.TheVariants.{Literal, Fixed, Vbr, Array, Char6, Blob}
use Rattle.bit_grammar.specs.declared.value_display.ValueDisplay.{ValueDisplay}
use Rattle.bit_grammar.specs.declared.value_display.ValueDisplay.TheVariants.{Shown, LeftOut}
use Rattle.bit_grammar.specs.Terms.{Head}
use Rattle.bit_grammar.specs.Machine.{Event, enters, defines, notes, leaves, Ending, broke}
use Rattle.bit_grammar.specs.Outlook.{Outlook}
use Rattle.bit_grammar.specs.Steps.{open_after}
use Rattle.bit_grammar.specs.Tally.{stream_begin}
use Rattle.bit_grammar.specs.Texts.{line, magic_text, values_text}

-- a line that begins with a bit: the bit, a space, and the line
abbrev pub line_at : (bit around : ℕ) → List ℕ → List ℕ
line_at bit around text = decimal bit ++ (32 ∷ line around text)

-- an operand
abbrev pub op_text : Op → List ℕ
op_text (Literal value) = codes "literal " ++ decimal value
op_text (Fixed width) = codes "fixed " ++ decimal width
op_text (Vbr width) = codes "vbr " ++ decimal width
op_text Array = codes "array"
op_text Char6 = codes "char6"
op_text Blob = codes "blob"

-- operands in order, joined by a comma and a space
abbrev pub ops_text : List Op → List ℕ
ops_text [] = []
ops_text (op ∷ ops) = op_text op ++ flat_map (λ other. codes ", " ++ op_text other) ops

-- the values of a record, a space before each, unless they are left out
abbrev pub shown_values : ValueDisplay → List ℕ → List ℕ
shown_values Shown values = values_text values
shown_values LeftOut values = []

-- a block's beginning: its id, the width of the ids in it, and the first bit of its body
abbrev pub opened_text : (id width body : ℕ) → List ℕ
opened_text id width body = codes "block " ++ decimal id ++ codes " width " ++ decimal width
    ++ codes " body " ++ decimal body

-- a record: its code, its abbreviation id, the number of its values, and these
abbrev pub noted_text : ValueDisplay → (code abbreviation : ℕ) → List ℕ → List ℕ
noted_text values code abbreviation listed = codes "record " ++ decimal code ++ codes " by "
    ++ decimal abbreviation ++ codes " count " ++ decimal (length listed)
    ++ shown_values values listed

-- The line of an event, with `around` blocks open before it. It begins with the first bit of the item, and at a block's end with
-- the bit after the block. The line of an end is indented as that of its own block.
abbrev pub event_line : ValueDisplay → (around : ℕ) → Event → List ℕ
event_line values around (enters o) = line_at o.first around (opened_text o.id o.width o.body)
event_line values around (defines mark) = line_at mark.first around
    (codes "define " ++ ops_text mark.ops)
event_line values around (notes mark) = line_at mark.first around
    (noted_text values mark.code mark.abbreviation mark.values)
event_line values around (leaves after) = line_at after (around - 1) (codes "end")

-- the lines of events in order, with `around` blocks open before the first
abbrev pub event_lines : ValueDisplay → (around : ℕ) → List Event → List ℕ
event_lines values around [] = []
event_lines values around (event ∷ events) = event_line values around event
    ++ event_lines values (open_after event around) events

-- the line of the magic, at the bit where the stream begins; a wrapper has no line
abbrev pub head_line : Head → List ℕ
head_line head = line_at (stream_begin head.wrapper) 0 (magic_text head.magic)

-- the text of an outlook: the line of the magic and those of the events, or nothing if no head is complete
abbrev pub outlook_text : ValueDisplay → Outlook → List ℕ
outlook_text values (Ok x) = head_line x.0 ++ event_lines values 0 x.1.0
outlook_text values (Err fault) = []

-- the end of an outlook
abbrev pub outlook_end : Outlook → Ending
outlook_end (Ok x) = x.1.1
outlook_end (Err fault) = broke fault
