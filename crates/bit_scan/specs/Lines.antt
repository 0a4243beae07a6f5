-- The lines of a report, of a listing and of events, as the code makes them.
use Rattle.std.specs.Prelude.{ℕ, ◌*◌, List, ◌∷◌, ◌++◌, replicate, codes, decimal}
use Rattle.bit_grammar.specs.Texts.{line, magic_text, code_text}
use Rattle.bit_scan.specs.CodesView.{code_tally}
use Rattle.bit_scan.specs.declared.rows.BlockRow.{BlockRow}
use Rattle.bit_scan.specs.declared.rows.CodeRow.{CodeRow}

-- the first line of a report
abbrev pub report_head : (magic bits : ℕ) → List ℕ
report_head magic bits = line 0 (magic_text magic ++ codes " bits " ++ decimal bits)

-- the first line of a listing
abbrev pub listing_head : (magic : ℕ) → List ℕ
listing_head magic = line 0 (magic_text magic)

-- the line of a block id, without those of its codes
abbrev pub block_row_text : {S H : Type 0} → ℕ × BlockRow S H → List ℕ
block_row_text e =
    line 0 (codes "block " ++ decimal e.0 ++ codes " count " ++ decimal e.1.blocks ++ codes " bits "
    ++ decimal e.1.bits ++ codes " definitions " ++ decimal e.1.definitions
    ++ codes " records " ++ decimal e.1.records ++ codes " abbreviated " ++ decimal e.1.abbreviated
    ++ codes " values " ++ decimal e.1.values)

-- its parts
abbrev pub block_start : {S H : Type 0} → ℕ × BlockRow S H → List ℕ
block_start e = codes "block " ++ decimal e.0 ++ codes " count " ++ decimal e.1.blocks
    ++ codes " bits " ++ decimal e.1.bits

abbrev pub block_middle : {S H : Type 0} → ℕ × BlockRow S H → List ℕ
block_middle e = codes " definitions " ++ decimal e.1.definitions ++ codes " records "
    ++ decimal e.1.records

abbrev pub block_end : {S H : Type 0} → ℕ × BlockRow S H → List ℕ
block_end e = codes " abbreviated " ++ decimal e.1.abbreviated ++ codes " values "
    ++ decimal e.1.values ++ codes "\n"

-- the line of a code
abbrev pub code_row_text : ℕ × CodeRow → List ℕ
code_row_text e = code_text (code_tally e)

-- the line of a record up to its values
abbrev pub record_line_front : (around code : ℕ) → List ℕ
record_line_front around code = replicate (2 * around) 32 ++ (codes "record " ++ decimal code)

-- a bit, a space, and the indentation
abbrev pub line_front : (bit around : ℕ) → List ℕ
line_front bit around = decimal bit ++ (32 ∷ replicate (2 * around) 32)

-- the line of a definition up to its operands
abbrev pub definition_head : (around first : ℕ) → List ℕ
definition_head around first = line_front first around ++ codes "define "

-- the line of a record among events up to its values
abbrev pub noted_head : (around first code abbreviation count : ℕ) → List ℕ
noted_head around first code abbreviation count = line_front first around
    ++ (codes "record " ++ decimal code ++ codes " by " ++ decimal abbreviation ++ codes " count "
    ++ decimal count)
