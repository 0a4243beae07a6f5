-- The view of the rows of codes.
use Rattle.std.specs.Prelude.{◌≡◌, ℕ, ◌+◌, List, map, Result, OnOk}
use Rattle.bit_grammar.specs.Tally.{CodeTally}
use Rattle.bit_grammar.specs.Counting.{rows_with, fresh_code}
use Rattle.bit_scan.specs.Cut.{cut_code}
use Rattle.bit_scan.specs.declared.rows.CodeRow.{CodeRow}

-- a code and its row
abbrev pub code_tally : ℕ × CodeRow → CodeTally
code_tally e = record { code = e.0; count = e.1.count; bits = e.1.bits }

abbrev pub code_tallies : List (ℕ × CodeRow) → List CodeTally
code_tallies rows = map code_tally rows

-- one more record of `bits` bits
abbrev pub one_more : (bits : ℕ) → CodeTally → CodeTally
one_more bits row = record { code = row.code; count = row.count + 1; bits = row.bits + bits }

-- the rows with one more record of a code
abbrev pub with_use : (code bits : ℕ) → List CodeTally → List CodeTally
with_use code bits rows = rows_with (λ (x : CodeTally). x.code) fresh_code (one_more bits) code rows

-- on success, rows that show some tallies show these with one more record of a code
abbrev pub CountsUse : {T E : Type 0} → (code bits : ℕ) → List (ℕ × CodeRow) → Result T E
    → List (ℕ × CodeRow) → Type 0
CountsUse code bits old result new = (tallies : List CodeTally)
    → code_tallies old ≡ map cut_code tallies
    → OnOk result (code_tallies new ≡ map cut_code (with_use code bits tallies))
