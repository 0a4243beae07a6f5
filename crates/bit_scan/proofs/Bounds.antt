-- Bounds on the totals of events in rows.
use Rattle.std.proofs.Common.{ℕ, ◌+◌, ◌≤◌, ◌^◌, Bool, true, false, eqb, List, [], ◌∷◌, length, arith}
use Rattle.std.specs.Prelude.{if◌then◌else◌}
use Rattle.std.specs.List.{AllByRecursion}
use Rattle.bit_grammar.specs.Machine.{Event, enters, defines, notes, leaves, Ending}
use Rattle.bit_grammar.specs.Marks.{RecordMark}
use Rattle.bit_grammar.specs.Steps.{open_after, values_told, all_values_told}
use Rattle.bit_grammar.specs.Tally.{CodeTally, BlockTally, record_bits, is_abbreviated}
use Rattle.bit_grammar.specs.Counting.{rows_with, fresh_code, fresh_row, one_use, one_block, more_bits, one_definition, one_record, OpenCount, Counts, with_row, count_here, count_end, count_event, count_events}
use Rattle.bit_scan.specs.EventLines.{EventFits, EventsFit}
use Rattle.bit_scan.proofs.Readings.{Is64}
use Rattle.bit_scan.proofs.Spans.{bits_told, all_bits_told}

-- a bound of rows also holds, weaker, for rows with one of them changed
all_weaker : {Row : Type 0} (P Q : Row → Type 0) → ((row : Row) → P row → Q row) → (rows : List Row) → AllByRecursion P rows → AllByRecursion Q rows
all_weaker P Q weaker [] all = tt
all_weaker P Q weaker (row ∷ rows) all = (weaker row all.0, all_weaker P Q weaker rows all.1)

all_changed : {Row : Type 0} (P Q : Row → Type 0) (key : Row → ℕ) (fresh : ℕ → Row) (change : Row → Row) (k : ℕ) → ((row : Row) → P row → Q row) → ((row : Row) → P row → Q (change row)) → Q (change (fresh k))
    → (rows : List Row) → AllByRecursion P rows → AllByRecursion Q (rows_with key fresh change k rows)
all_changed P Q key fresh change k weaker step first [] all = (first, tt)
all_changed P Q key fresh change k weaker step first (row ∷ rows) all = go (eqb (key row) k) (all_changed P Q key fresh change k weaker step first rows all.1)
  where
    go : (b : Bool) → AllByRecursion Q (rows_with key fresh change k rows) → AllByRecursion Q (if b then change row ∷ rows else row ∷ rows_with key fresh change k rows)
    go true more = (step row all.0, all_weaker P Q weaker rows all.1)
    go false more = (weaker row all.0, more)

-- ---- rows of events, of which there are n, with v values and b bits of records

pub record CodeWithin (n b : ℕ) (row : CodeTally) : Type 0 where
  pub code : Is64 row.code
  pub count : row.count ≤ n
  pub bits : row.bits ≤ b

pub record RowWithin (n v b : ℕ) (row : BlockTally) : Type 0 where
  pub id : Is64 row.id
  pub blocks : row.blocks ≤ n
  pub definitions : row.definitions ≤ n
  pub records : row.records ≤ n
  pub abbreviated : row.abbreviated ≤ n
  pub values : row.values ≤ v
  pub codes : AllByRecursion (CodeWithin n b) row.codes

abbrev pub AreWithin : (n v b : ℕ) → List BlockTally → Type 0
AreWithin n v b rows = AllByRecursion (RowWithin n v b) rows

code_weaker : (n m b d : ℕ) → n ≤ m → b ≤ d → (row : CodeTally) → CodeWithin n b row → CodeWithin m d row
code_weaker n m b d le more row w = record { code = w.code; count = omega (arith, w.count, le); bits = omega (arith, w.bits, more) }

row_weaker : (n m v w b d : ℕ) → n ≤ m → v ≤ w → b ≤ d → (row : BlockTally) → RowWithin n v b row → RowWithin m w d row
row_weaker n m v w b d le values more row within = record {
  id = within.id;
  blocks = omega (arith, within.blocks, le);
  definitions = omega (arith, within.definitions, le);
  records = omega (arith, within.records, le);
  abbreviated = omega (arith, within.abbreviated, le);
  values = omega (arith, within.values, values);
  codes = all_weaker (CodeWithin n b) (CodeWithin m d) (code_weaker n m b d le more) row.codes within.codes;
}

fresh_within : (id n v b : ℕ) → Is64 id → RowWithin n v b (fresh_row id)
fresh_within id n v b small = record { id = small; blocks = omega arith; definitions = omega arith; records = omega arith; abbreviated = omega arith; values = omega arith; codes = tt }

with_row_within : (change : BlockTally → BlockTally) (id n v b w d : ℕ) → Is64 id → ((row : BlockTally) → RowWithin n v b row → RowWithin (n + 1) (v + w) (b + d) (change row)) → (rows : List BlockTally) → AreWithin n v b rows → AreWithin (n + 1) (v + w) (b + d) (with_row change id rows)
with_row_within change id n v b w d small changes rows all =
    all_changed (RowWithin n v b) (RowWithin (n + 1) (v + w) (b + d)) (λ (x : BlockTally). x.id) fresh_row change id (row_weaker n (n + 1) v (v + w) b (b + d) (omega arith) (omega arith) (omega arith)) changes
    (changes (fresh_row id) (fresh_within id n v b small)) rows all

block_within : (n v b : ℕ) (row : BlockTally) → RowWithin n v b row → RowWithin (n + 1) (v + 0) (b + 0) (one_block row)
block_within n v b row w =
    let more = row_weaker n (n + 1) v (v + 0) b (b + 0) (omega arith) (omega arith) (omega arith) row w in
    record { id = w.id; blocks = omega (arith, w.blocks); definitions = more.definitions; records = more.records; abbreviated = more.abbreviated; values = more.values; codes = more.codes }

bits_within : (bits n v b : ℕ) (row : BlockTally) → RowWithin n v b row → RowWithin (n + 1) (v + 0) (b + 0) (more_bits bits row)
bits_within bits n v b row w =
    let more = row_weaker n (n + 1) v (v + 0) b (b + 0) (omega arith) (omega arith) (omega arith) row w in
    record { id = w.id; blocks = more.blocks; definitions = more.definitions; records = more.records; abbreviated = more.abbreviated; values = more.values; codes = more.codes }

definition_within : (n v b : ℕ) (row : BlockTally) → RowWithin n v b row → RowWithin (n + 1) (v + 0) (b + 0) (one_definition row)
definition_within n v b row w =
    let more = row_weaker n (n + 1) v (v + 0) b (b + 0) (omega arith) (omega arith) (omega arith) row w in
    record { id = w.id; blocks = more.blocks; definitions = omega (arith, w.definitions); records = more.records; abbreviated = more.abbreviated; values = more.values; codes = more.codes }

one_at_most : (b : Bool) (n m : ℕ) → n ≤ m → n + (if b then 1 else 0) ≤ m + 1
one_at_most true n m le = omega (arith, le)
one_at_most false n m le = omega (arith, le)

record_within : (mark : RecordMark) (n v b : ℕ) → Is64 mark.code → (row : BlockTally) → RowWithin n v b row → RowWithin (n + 1) (v + length mark.values) (b + record_bits mark) (one_record mark row)
record_within mark n v b small row w =
    let more = row_weaker n (n + 1) v (v + length mark.values) b (b + record_bits mark) (omega arith) (omega arith) (omega arith) row w in
    let used = λ (code : CodeTally) (c : CodeWithin n b code). (let one : CodeWithin (n + 1) (b + record_bits mark) (one_use mark code) = record { code = c.code; count = omega (arith, c.count); bits = omega (arith, c.bits) } in one) in
    record {
      id = w.id;
      blocks = more.blocks;
      definitions = more.definitions;
      records = omega (arith, w.records);
      abbreviated = one_at_most (is_abbreviated mark) row.abbreviated n w.abbreviated;
      values = omega (arith, w.values);
      codes = all_changed (CodeWithin n b) (CodeWithin (n + 1) (b + record_bits mark)) (λ (x : CodeTally). x.code) fresh_code (one_use mark) mark.code (code_weaker n (n + 1) b (b + record_bits mark) (omega arith) (omega arith)) used
          (used (fresh_code mark.code) (record { code = small; count = omega arith; bits = omega arith })) row.codes w.codes;
    }

same_within : (n v b w d : ℕ) (rows : List BlockTally) → AreWithin n v b rows → AreWithin (n + 1) (v + w) (b + d) rows
same_within n v b w d rows all = all_weaker (RowWithin n v b) (RowWithin (n + 1) (v + w) (b + d)) (row_weaker n (n + 1) v (v + w) b (b + d) (omega arith) (omega arith) (omega arith)) rows all

abbrev AroundFits : List OpenCount → Type 0
AroundFits around = AllByRecursion (λ (o : OpenCount). Is64 o.id) around

here_within : (change : BlockTally → BlockTally) (n v b w d : ℕ) → ((row : BlockTally) → RowWithin n v b row → RowWithin (n + 1) (v + w) (b + d) (change row)) → (around : List OpenCount) (rows : List BlockTally) → AroundFits around → AreWithin n v b rows → AreWithin (n + 1) (v + w) (b + d) (count_here change around rows)
here_within change n v b w d changes [] rows small all = same_within n v b w d rows all
here_within change n v b w d changes (o ∷ around) rows small all = with_row_within change o.id n v b w d small.0 changes rows all

end_within : (after n v b : ℕ) (around : List OpenCount) (rows : List BlockTally) → AroundFits around → AreWithin n v b rows → AreWithin (n + 1) (v + 0) (b + 0) (count_end after around rows).rows
end_within after n v b [] rows small all = same_within n v b 0 0 rows all
end_within after n v b (o ∷ around) rows small all = with_row_within (more_bits _) o.id n v b 0 0 small.0 (bits_within _ n v b) rows all

event_within : (event : Event) (c : Counts) (n v b : ℕ) → EventFits (2 ^ 64) event → AroundFits c.around → AreWithin n v b c.rows → AreWithin (n + 1) (v + values_told event) (b + bits_told event) (count_event event c).rows
event_within (enters o) c n v b fits small all = with_row_within one_block o.id n v b 0 0 fits.1 (block_within n v b) c.rows all
event_within (defines mark) c n v b fits small all = here_within one_definition n v b 0 0 (definition_within n v b) c.around c.rows small all
event_within (notes mark) c n v b fits small all = here_within (one_record mark) n v b (length mark.values) (record_bits mark) (record_within mark n v b fits.1) c.around c.rows small all
event_within (leaves after) c n v b fits small all = end_within after n v b c.around c.rows small all

left_around : (after : ℕ) (around : List OpenCount) (rows : List BlockTally) → AroundFits around → AroundFits (count_end after around rows).around
left_around after [] rows small = tt
left_around after (o ∷ []) rows small = tt
left_around after (o ∷ next ∷ around) rows small = small.1

around_fits : (event : Event) (c : Counts) → EventFits (2 ^ 64) event → AroundFits c.around → AroundFits (count_event event c).around
around_fits (enters o) c fits small = (fits.1, small)
around_fits (defines mark) c fits small = small
around_fits (notes mark) c fits small = small
around_fits (leaves after) c fits small = left_around after c.around c.rows small

-- the rows of events
pub events_within : (around : ℕ) (events : List Event) (end : Ending) (c : Counts) (n v b : ℕ) → EventsFit (2 ^ 64) around events end → AroundFits c.around → AreWithin n v b c.rows → AreWithin (n + length events) (v + all_values_told events) (b + all_bits_told events) (count_events events c).rows
events_within around [] end c n v b fits small all = all_weaker (RowWithin n v b) (RowWithin (n + 0) (v + 0) (b + 0)) (row_weaker n (n + 0) v (v + 0) b (b + 0) (omega arith) (omega arith) (omega arith)) c.rows all
events_within around (event ∷ events) end c n v b fits small all =
    let more = events_within (open_after event around) events end (count_event event c) (n + 1) (v + values_told event) (b + bits_told event) fits.2 (around_fits event c fits.1 small) (event_within event c n v b fits.1 small all) in
    all_weaker (RowWithin (n + 1 + length events) (v + values_told event + all_values_told events) (b + bits_told event + all_bits_told events)) (RowWithin (n + length (event ∷ events)) (v + all_values_told (event ∷ events)) (b + all_bits_told (event ∷ events)))
    (row_weaker (n + 1 + length events) (n + length (event ∷ events)) (v + values_told event + all_values_told events) (v + all_values_told (event ∷ events)) (b + bits_told event + all_bits_told events) (b + all_bits_told (event ∷ events)) (omega arith) (omega arith) (omega arith)) (count_events events (count_event event c)).rows more
