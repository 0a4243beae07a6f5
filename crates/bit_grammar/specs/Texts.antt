-- The report of an analysis and the listing of a tree, as ASCII codes.
-- This project's own.
use Rattle.std.specs.Prelude.{ℕ, suc, ◌*◌, ◌/◌, ◌%◌, false, List, [], ◌∷◌, ◌++◌, replicate, flat_map, codes, decimal}
use Rattle.std.specs.Fmt.{digit_glyph}
use Rattle.bit_grammar.specs.Forest.{Forest, empty, a_block, a_record, Tree}
use Rattle.bit_grammar.specs.Machine.{Event, enters, defines, notes, leaves}
use Rattle.bit_grammar.specs.Steps.{open_after}
use Rattle.bit_grammar.specs.Tally.{CodeTally, BlockTally, Tally}

-- a line, with two spaces before it for each block around it
abbrev pub line : (around : ℕ) → List ℕ → List ℕ
line around text = replicate (2 * around) 32 ++ (text ++ 10 ∷ [])

-- two lower-case hexadecimal digits
abbrev pub hex_text : ℕ → List ℕ
hex_text byte = digit_glyph false (byte / 16) ∷ digit_glyph false (byte % 16) ∷ []

-- the four bytes of a magic, the low byte first
abbrev pub magic_bytes : ℕ → List ℕ
magic_bytes magic = magic % 0x100 ∷ magic / 0x100 % 0x100 ∷ magic / 0x10000 % 0x100
    ∷ magic / 0x1000000 % 0x100 ∷ []

-- the word, and the magic byte by byte
abbrev pub magic_text : ℕ → List ℕ
magic_text magic = codes "magic " ++ flat_map hex_text (magic_bytes magic)

-- ---- the report

-- the line of a code
abbrev pub code_text : CodeTally → List ℕ
code_text row = line 1 (codes "record " ++ decimal row.code ++ codes " count " ++ decimal row.count
    ++ codes " bits " ++ decimal row.bits)

-- the line of a block id, and those of its codes
abbrev pub row_text : BlockTally → List ℕ
row_text row =
    line 0 (codes "block " ++ decimal row.id ++ codes " count " ++ decimal row.blocks
    ++ codes " bits " ++ decimal row.bits ++ codes " definitions " ++ decimal row.definitions
    ++ codes " records " ++ decimal row.records ++ codes " abbreviated " ++ decimal row.abbreviated
    ++ codes " values " ++ decimal row.values)
    ++ flat_map code_text row.codes

-- a line for the stream, and for each row a line and one for each of its codes
abbrev pub report_of : Tally → List ℕ
report_of tally = line 0 (magic_text tally.magic ++ codes " bits " ++ decimal tally.bits)
    ++ flat_map row_text tally.rows

-- ---- the listing

-- the line of a block
abbrev pub block_line : (around id : ℕ) → List ℕ
block_line around id = line around (codes "block " ++ decimal id)

-- the values of a record, a space before each
abbrev pub values_text : List ℕ → List ℕ
values_text values = flat_map (λ v. 32 ∷ decimal v) values

-- the line of a record: its code and each value
abbrev pub record_line : (around code : ℕ) → List ℕ → List ℕ
record_line around code values = line around (codes "record " ++ decimal code ++ values_text values)

-- the items in order, with `around` blocks around them
abbrev pub lines_of : (around : ℕ) → Forest → List ℕ
lines_of around empty = []
lines_of around (a_block id inner rest) = block_line around id
    ++ (lines_of (suc around) inner ++ lines_of around rest)
lines_of around (a_record code values rest) = record_line around code values ++ lines_of around rest

-- a line for the magic, and one for each block and record
abbrev pub listing_of : Tree → List ℕ
listing_of tree = line 0 (magic_text tree.magic) ++ lines_of 0 tree.blocks

-- ---- the listing, event by event

-- the line of an event, with `around` blocks around it; definitions and ends have none
abbrev pub event_text : (around : ℕ) → Event → List ℕ
event_text around (enters o) = block_line around o.id
event_text around (defines mark) = []
event_text around (notes mark) = record_line around mark.code mark.values
event_text around (leaves after) = []

-- the lines of events in order, with `around` blocks around the first
abbrev pub events_text : (around : ℕ) → List Event → List ℕ
events_text around [] = []
events_text around (event ∷ events) = event_text around event
    ++ events_text (open_after event around) events
