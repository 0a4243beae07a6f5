-- The counts of an accepted input are exact: no number reaches 2 ^ 64.
use Rattle.std.proofs.Common.{◌≡◌, ℕ, ◌+◌, ◌*◌, ◌^◌, ◌<◌, ◌≤◌, List, [], ◌∷◌, length, map, refl, ap, subst, arith}
use Rattle.std.specs.Prelude.{sum_by}
use Rattle.std.specs.List.{AllByRecursion}
use Rattle.std.proofs.lemmas.List.Sums.{sum_by-cons}
use Rattle.bit_grammar.specs.Blocks.{Limits}
use Rattle.bit_grammar.specs.Input.{SpellsInput}
use Rattle.bit_grammar.specs.Terms.{Marked}
use Rattle.bit_grammar.specs.Machine.{flat, accepted}
use Rattle.bit_grammar.specs.Normal.{Capped}
use Rattle.bit_grammar.specs.Steps.{all_values_told}
use Rattle.bit_grammar.specs.Tally.{CodeTally, BlockTally, stream_bits, tally_of, bits_of_rows}
use Rattle.bit_grammar.specs.Counting.{no_counts, count_events}
use Rattle.bit_grammar.proofs.Events.Nesting.{values_of_marks}
use Rattle.bit_grammar.proofs.Events.Outlooks.{outlook_spelled}
use Rattle.bit_grammar.proofs.WholeInputs.Limits.{limits_judged}
use Rattle.bit_grammar.proofs.Tallying.Tallies.{bits_add_up, rows_by_events}
use Rattle.bit_scan.specs.Cut.{cut_code, cut_row, cut_rows}
use Rattle.bit_scan.specs.EventLines.{CodeRowFits, BlockRowFits, OutlookFits, ReportFits}
use Rattle.bit_scan.proofs.Bounds.{CodeWithin, AreWithin, events_within}
use Rattle.bit_scan.proofs.EventReadings.{outlook_fits}
use Rattle.bit_scan.proofs.Saturating.{fits_stays}
use Rattle.bit_scan.proofs.Spans.{input_told, all_bits_told}

-- ---- rows that fit are not cut

code_stays : (row : CodeTally) → CodeRowFits (2 ^ 64) row → cut_code row ≡ row
code_stays row fits = (let e : ◌≡◌ {A = CodeTally} (cut_code row) (record { code = row.code; count = row.count; bits = row.bits }) = rw (fits_stays row.count (omega (arith, fits.1)), fits_stays row.bits (omega (arith, fits.2))) refl in e)

codes_stay : (rows : List CodeTally) → AllByRecursion (CodeRowFits (2 ^ 64)) rows → map cut_code rows ≡ rows
codes_stay [] all = refl
codes_stay (row ∷ rows) all = rw (code_stays row all.0, codes_stay rows all.1) refl

row_stays : (row : BlockTally) → BlockRowFits (2 ^ 64) row → cut_row row ≡ row
row_stays row fits =
    let e : ◌≡◌ {A = BlockTally} (cut_row row) (record { id = row.id; blocks = row.blocks; bits = row.bits; definitions = row.definitions; records = row.records; abbreviated = row.abbreviated; values = row.values; codes = row.codes }) =
    rw (fits_stays row.blocks (omega (arith, fits.1)), fits_stays row.bits (omega (arith, fits.2)), fits_stays row.definitions (omega (arith, fits.3)), fits_stays row.records (omega (arith, fits.4)), fits_stays row.abbreviated (omega (arith, fits.5)), fits_stays row.values (omega (arith, fits.6)), codes_stay row.codes fits.7) refl in
    e

abbrev RowsFit : List BlockTally → Type 0
RowsFit rows = AllByRecursion (BlockRowFits (2 ^ 64)) rows

pub rows_stay : (rows : List BlockTally) → RowsFit rows → cut_rows rows ≡ rows
rows_stay [] all = refl
rows_stay (row ∷ rows) all = rw (row_stays row all.0, rows_stay rows all.1) refl

-- ---- rows of an input

-- rows within these numbers, and with few bits together, fit
codes_fit : (n b : ℕ) → n < 2 ^ 64 → b < 2 ^ 64 → (rows : List CodeTally) → AllByRecursion (CodeWithin n b) rows → AllByRecursion (CodeRowFits (2 ^ 64)) rows
codes_fit n b few small [] all = tt
codes_fit n b few small (row ∷ rows) all = ((all.0.code, omega (arith, all.0.count, few), omega (arith, all.0.bits, small)), codes_fit n b few small rows all.1)

rows_fit : (n v b : ℕ) → n < 2 ^ 64 → v < 2 ^ 64 → b < 2 ^ 64 → (rows : List BlockTally) → AreWithin n v b rows → sum_by (λ (row : BlockTally). row.bits) rows < 2 ^ 64 → RowsFit rows
rows_fit n v b few values small [] all bits = tt
rows_fit n v b few values small (row ∷ rows) all bits =
    let sum = sum_by-cons (λ (x : BlockTally). x.bits) row rows in
    let w = all.0 in (
      (
        w.id,
        omega (arith, w.blocks, few),
        omega (arith, sum, bits),
        omega (arith, w.definitions, few),
        omega (arith, w.records, few),
        omega (arith, w.abbreviated, few),
        omega (arith, w.values, values),
        codes_fit n b few small row.codes w.codes,
      ),
      rows_fit n v b few values small rows all.1 (omega (arith, sum, bits)),
    )

-- all numbers of the report
pub report_fits : (limits : Limits) (bytes : List ℕ) (m : Marked) → Capped limits → SpellsInput limits bytes m → ReportFits (2 ^ 64) (tally_of m)
report_fits limits bytes m capped h =
    let events = flat m.blocks [] in
    let input = input_told limits bytes m h in
    let t = input.told in
    let size : 8 * length bytes ≤ 137438953440 = omega (arith, h.fits, capped.bytes) in
    let values : all_values_told events ≤ 4294967295 = omega (arith, values_of_marks m.blocks [], ((limits_judged limits limits bytes m h).0 h).2, capped.values) in
    let fits = subst (OutlookFits (2 ^ 64)) (outlook_spelled limits bytes m h) (outlook_fits limits bytes capped) in
    let within = events_within 0 events (accepted m.after) no_counts 0 0 0 fits.1 tt tt in
    let sum : sum_by (λ (row : BlockTally). row.bits) (count_events events no_counts).rows ≡ bits_of_rows (tally_of m) = ap (sum_by (λ (row : BlockTally). row.bits)) (rows_by_events limits bytes m h) in
    let stream : stream_bits m < 2 ^ 64 = omega (arith, input.after, size) in
    let rows = rows_fit (0 + length events) (0 + all_values_told events) (0 + all_bits_told events) (omega (arith, t.count, size)) (omega (arith, values)) (omega (arith, t.records, size)) (count_events events no_counts).rows within (omega (arith, sum, bits_add_up limits bytes m h, stream)) in
    (stream, subst RowsFit (rows_by_events limits bytes m h) rows)
