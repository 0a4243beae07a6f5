-- Rows of codes and of block ids with one of them changed.
use Rattle.std.proofs.Common.{◌≡◌, ℕ, ◌+◌, List, [], ◌∷◌, ◌++◌, map, None, Some, Result, Ok, Err, refl, ap, ◌∙◌, min, arith, slice_get}
use Rattle.std.specs.Prelude.{OnOk}
use Rattle.std.specs.declared.alloc.AllocError.{AllocError}
use Rattle.std.specs.List.{IsDistinct}
use Rattle.std.specs.Map.{keys_of, lookup}
use Rattle.std.specs.Prelude.{nat_eq}
use Rattle.indexmap.specs.Layout.{set_value_at}
use Rattle.bit_grammar.specs.Marks.{RecordMark}
use Rattle.bit_grammar.specs.Tally.{CodeTally, BlockTally}
use Rattle.bit_grammar.specs.Counting.{fresh_code, fresh_row, with_row}
use Rattle.bit_scan.specs.Additions.{with_added}
use Rattle.bit_scan.specs.CodesView.{code_tally, code_tallies, one_more, with_use}
use Rattle.bit_scan.specs.Cut.{cut_code, cut_row, cut_rows}
use Rattle.bit_grammar.specs.Bits.{saturated}
use Rattle.bit_scan.specs.Rows.{block_tally, block_tallies, with_records, CountsInRow}
use Rattle.bit_scan.specs.declared.rows.Addition.{Addition}
use Rattle.bit_scan.specs.declared.rows.BlockRow.{BlockRow}
use Rattle.bit_scan.specs.declared.rows.CodeRow.{CodeRow}
use Rattle.bit_scan.proofs.Changing.{AreShown, changed_at, changed_absent}
use Rattle.bit_scan.proofs.Saturating.{sum_stops}

codes_shown : AreShown code_tally (λ (x : CodeTally). x.code) cut_code
codes_shown = record { by_key = λ e. refl; kept = λ row. refl }

-- one more record of a code that was there
pub use_at : (es : List (ℕ × CodeRow)) (tallies : List CodeTally) (code j bits i : ℕ) (old new : CodeRow) → new.count ≡ min (old.count + 1) 18446744073709551615 → new.bits ≡ min (old.bits + bits) 18446744073709551615
    → IsDistinct nat_eq (keys_of es) → slice_get es i ≡ Some (j, old) → slice_get (keys_of es) i ≡ Some code → code_tallies es ≡ map cut_code tallies → code_tallies (set_value_at es i new) ≡ map cut_code (with_use code bits tallies)
use_at es tallies code j bits i old new count sum distinct found at shown =
    changed_at code_tally (λ (x : CodeTally). x.code) cut_code fresh_code (one_more bits) codes_shown code j old new
    (λ row same.
    let one = count ∙ sum_stops old.count row.count 1 (ap (λ (x : CodeTally). x.count) same) in
    let two = sum ∙ sum_stops old.bits row.bits bits (ap (λ (x : CodeTally). x.bits) same) in
    let three : code ≡ row.code = ap (λ (x : CodeTally). x.code) same in
    cc)
    es tallies i shown distinct found at

-- the first record of a code
pub use_absent : (es : List (ℕ × CodeRow)) (tallies : List CodeTally) (code bits : ℕ) (new : CodeRow) → new.count ≡ 1 → new.bits ≡ saturated bits
    → code_tallies es ≡ map cut_code tallies → lookup (nat_eq code) es ≡ None → code_tallies (es ++ (code, new) ∷ []) ≡ map cut_code (with_use code bits tallies)
use_absent es tallies code bits new count sum shown absent =
    let none : 0 + bits ≡ bits = omega arith in
    changed_absent code_tally (λ (x : CodeTally). x.code) cut_code fresh_code (one_more bits) codes_shown code new (rw (count, sum, none) refl) es tallies shown absent

rows_shown : {S H : Type 0} → AreShown {V = BlockRow S H} block_tally (λ (x : BlockTally). x.id) cut_row
rows_shown = record { by_key = λ e. refl; kept = λ row. refl }

-- an addition to an existing row
pub added_at : {S H : Type 0} (result : Result (Unit {0}) AllocError) (es : List (ℕ × BlockRow S H)) (tallies : List BlockTally) (id j i : ℕ) (addition : Addition) (old new : BlockRow S H)
    → ((tally : BlockTally) → block_tally (id, old) ≡ cut_row tally → OnOk result (block_tally (id, new) ≡ cut_row (with_added addition tally)))
    → IsDistinct nat_eq (keys_of es) → slice_get es i ≡ Some (j, old) → slice_get (keys_of es) i ≡ Some id → block_tallies es ≡ cut_rows tallies
    → OnOk result (block_tallies (set_value_at es i new) ≡ cut_rows (with_row (with_added addition) id tallies))
added_at (Ok v) es tallies id j i addition old new step distinct found at shown =
    changed_at block_tally (λ (x : BlockTally). x.id) cut_row fresh_row (with_added addition) rows_shown id j old new step es tallies i shown distinct found at
added_at (Err e) es tallies id j i addition old new step distinct found at shown = tt

-- records in an existing row
pub records_at : {S H : Type 0} (records : List RecordMark) (es : List (ℕ × BlockRow S H)) (tallies : List BlockTally) (id j i : ℕ) (old new : BlockRow S H) → CountsInRow old records new
    → IsDistinct nat_eq (keys_of es) → slice_get es i ≡ Some (j, old) → slice_get (keys_of es) i ≡ Some id → block_tallies es ≡ cut_rows tallies
    → block_tallies (set_value_at es i new) ≡ cut_rows (with_row (with_records records) id tallies)
records_at records es tallies id j i old new counted distinct found at shown =
    changed_at block_tally (λ (x : BlockTally). x.id) cut_row fresh_row (with_records records) rows_shown id j old new (counted id) es tallies i shown distinct found at

-- the first of a row
pub added_absent : {S H : Type 0} (es : List (ℕ × BlockRow S H)) (tallies : List BlockTally) (id : ℕ) (addition : Addition) (fresh new : BlockRow S H)
    → block_tally (id, fresh) ≡ fresh_row id → ((tally : BlockTally) → block_tally (id, fresh) ≡ cut_row tally → block_tally (id, new) ≡ cut_row (with_added addition tally))
    → block_tallies es ≡ cut_rows tallies → lookup (nat_eq id) es ≡ None → block_tallies (es ++ (id, new) ∷ []) ≡ cut_rows (with_row (with_added addition) id tallies)
added_absent es tallies id addition fresh new none step shown absent =
    changed_absent block_tally (λ (x : BlockTally). x.id) cut_row fresh_row (with_added addition) rows_shown id new (step (fresh_row id) none) es tallies shown absent
