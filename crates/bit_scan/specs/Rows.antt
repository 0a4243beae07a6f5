-- The view of the rows of an analysis.
use Rattle.std.specs.Prelude.{◌≡◌, ℕ, ◌+◌, if◌then◌else◌, List, [], ◌∷◌, map, sum_by, Result, OnOk}
use Rattle.bit_grammar.specs.Marks.{RecordMark}
use Rattle.bit_grammar.specs.Bits.{saturated}
use Rattle.bit_grammar.specs.Tally.{CodeTally, BlockTally, record_bits, is_abbreviated}
use Rattle.bit_grammar.specs.Counting.{one_record, with_row}
use Rattle.bit_scan.specs.Additions.{with_added}
use Rattle.bit_scan.specs.CodesView.{code_tallies, with_use}
use Rattle.bit_scan.specs.Cut.{cut_code, cut_row, cut_rows}
use Rattle.bit_scan.specs.declared.rows.Addition.{Addition}
use Rattle.bit_scan.specs.declared.rows.BlockRow.{BlockRow}
use Rattle.bit_scan.specs.declared.rows.CodeRow.{CodeRow}
use Rattle.bit_scan.specs.declared.rows.RowCounter.{RowCounter}

-- a block id and its row
abbrev pub block_tally : {S H : Type 0} → ℕ × BlockRow S H → BlockTally
block_tally e = record {
  id = e.0;
  blocks = e.1.blocks;
  bits = e.1.bits;
  definitions = e.1.definitions;
  records = e.1.records;
  abbreviated = e.1.abbreviated;
  values = e.1.values;
  codes = code_tallies e.1.codes;
}

abbrev pub block_tallies : {S H : Type 0} → List (ℕ × BlockRow S H) → List BlockTally
block_tallies rows = map block_tally rows

-- on success, rows that show some tallies show these with an addition to the row of an id
abbrev pub AddsToRow : {T E S H : Type 0} → Addition → (id : ℕ) → List (ℕ × BlockRow S H) → Result T E
    → List (ℕ × BlockRow S H) → Type 0
AddsToRow addition id old result new = (tallies : List BlockTally)
    → block_tallies old ≡ cut_rows tallies → OnOk result
    (block_tallies new ≡ cut_rows (with_row (with_added addition) id tallies))

-- a row with these records more
abbrev pub with_records : List RecordMark → BlockTally → BlockTally
with_records [] tally = tally
with_records (mark ∷ records) tally = with_records records (one_record mark tally)

-- a row that shows a tally shows it with these records more
abbrev pub CountsInRow : {S H : Type 0} → BlockRow S H → List RecordMark → BlockRow S H → Type 0
CountsInRow old records new = (id : ℕ) (tally : BlockTally) → block_tally (id, old) ≡ cut_row tally
    → block_tally (id, new) ≡ cut_row (with_records records tally)

-- the rows of codes with these records more
abbrev pub with_uses : List RecordMark → List CodeTally → List CodeTally
with_uses [] codes = codes
with_uses (mark ∷ records) codes = with_uses records (with_use mark.code (record_bits mark) codes)

-- how many records use a definition
abbrev pub abbreviated_in : List RecordMark → ℕ
abbreviated_in records = sum_by (λ mark. if is_abbreviated mark then 1 else 0) records

-- how many records use none
abbrev pub plain_in : List RecordMark → ℕ
plain_in records = sum_by (λ mark. if is_abbreviated mark then 0 else 1) records

-- a row with these codes
abbrev pub with_codes : {S H : Type 0} → List (ℕ × CodeRow) → BlockRow S H → BlockRow S H
with_codes codes row = record row { codes = codes }

-- a row with the sums of a run of records
abbrev pub with_run : {S H : Type 0} → (plain abbreviated values : ℕ) → BlockRow S H → BlockRow S H
with_run plain abbreviated values row = record row {
  records = saturated (row.records + saturated (plain + abbreviated));
  abbreviated = saturated (row.abbreviated + abbreviated);
  values = saturated (row.values + values);
}

-- The same reference, to a row whose codes have these records more, and the sums of the records.
pub record CountsBehind {S H : Type 0} (old : RowCounter S H) (records : List RecordMark) (new : RowCounter S H) : Type 0 where
  pub same : new.row.ghost_name ≡ old.row.ghost_name
  pub row : new.row.now ≡ with_codes new.row.now.codes old.row.now
  pub codes : (tallies : List CodeTally) → code_tallies old.row.now.codes ≡ map cut_code tallies
      → code_tallies new.row.now.codes ≡ map cut_code (with_uses records tallies)
  pub plain : new.plain ≡ saturated (old.plain + plain_in records)
  pub abbreviated : new.abbreviated ≡ saturated (old.abbreviated + abbreviated_in records)

-- the rows after these records of a block with this id
abbrev pub rows_after : List RecordMark → (id : ℕ) → List BlockTally → List BlockTally
rows_after [] id tallies = tallies
rows_after (mark ∷ records) id tallies = rows_after records id (with_row (one_record mark) id tallies)
