-- Counting one event after others.
use Rattle.std.proofs.Common.{◌≡◌, ℕ, ◌+◌, ◌-◌, ◌^◌, min, Bool, true, false, List, [], ◌∷◌, ◌++◌, Result, Ok, Err, refl, sym, ap, ◌∙◌, arith, if◌then◌else◌, ◌==◌}
use Rattle.std.specs.Prelude.{OnOk}
use Rattle.std.specs.declared.alloc.AllocError.{AllocError}
use Rattle.bit_grammar.specs.Machine.{Event}
use Rattle.bit_grammar.specs.Steps.{MayStand}
use Rattle.bit_grammar.specs.Tally.{BlockTally}
use Rattle.bit_events.specs.Gathering.{left_open}
use Rattle.bit_grammar.specs.Counting.{OpenCount, Counts, no_counts, fresh_row, with_row, count_here, count_event, count_events}
use Rattle.bit_scan.specs.Additions.{with_added}
use Rattle.bit_scan.specs.Counting.{added_here}
use Rattle.bit_scan.specs.Cut.{capped_counts, cut_row, cut_rows}
use Rattle.bit_grammar.specs.Bits.{saturated}
use Rattle.bit_scan.specs.declared.rows.Addition.TheVariants as addition

-- one event after others
count_then : (done : List Event) (event : Event) (c : Counts) → count_events (done ++ event ∷ []) c ≡ count_event event (count_events done c)
count_then [] event c = refl
count_then (first ∷ done) event c = count_then done event (count_event first c)

-- a step that counts an event gathers it
pub gathers_counts : (old new : Counts) (event : Event) (result : Result (Unit {0}) AllocError) → ((counts : Counts) → old ≡ capped_counts counts → OnOk result (new ≡ capped_counts (count_event event counts)))
    → OnOk result ((first : Counts) (done : List Event) (deepest : ℕ) → old ≡ capped_counts (count_events done no_counts) → MayStand deepest event (left_open done) → new ≡ capped_counts (count_events (done ++ event ∷ []) no_counts))
gathers_counts old new event (Ok x) counted = λ first done deepest was stands. counted (count_events done no_counts) was ∙ ap capped_counts (sym (count_then done event no_counts))
gathers_counts old new event (Err e) counted = tt

pub then_same : {A : Type 0} (result : Result (Unit {0}) AllocError) (x y z : A) → OnOk result (x ≡ y) → y ≡ z → OnOk result (x ≡ z)
then_same (Ok v) x y z one two = one ∙ two
then_same (Err e) x y z one two = tt

-- ---- changes that are cut to the same

same_rows : (change other : BlockTally → BlockTally) → ((row : BlockTally) → cut_row (change row) ≡ cut_row (other row)) → (id : ℕ) (rows : List BlockTally) → cut_rows (with_row change id rows) ≡ cut_rows (with_row other id rows)
same_rows change other same id [] = ap (λ (row : BlockTally). row ∷ []) (same (fresh_row id))
same_rows change other same id (row ∷ rows) = go (row.id == id) (same_rows change other same id rows)
  where
    go : (here : Bool) → cut_rows (with_row change id rows) ≡ cut_rows (with_row other id rows) → cut_rows (if here then change row ∷ rows else row ∷ with_row change id rows) ≡ cut_rows (if here then other row ∷ rows else row ∷ with_row other id rows)
    go true others = ap (λ (x : BlockTally). x ∷ cut_rows rows) (same row)
    go false others = ap (λ (xs : List BlockTally). cut_row row ∷ xs) others

same_here : (change other : BlockTally → BlockTally) → ((row : BlockTally) → cut_row (change row) ≡ cut_row (other row)) → (around : List OpenCount) (rows : List BlockTally) → cut_rows (count_here change around rows) ≡ cut_rows (count_here other around rows)
same_here change other same [] rows = refl
same_here change other same (b ∷ around) rows = same_rows change other same b.id rows

-- a number of values that is cut before it is added
cut_before : (a n : ℕ) → saturated (a + min n (2 ^ 64 - 1)) ≡ saturated (a + n)
cut_before a n = omega arith

pub same_values : (code : ℕ) (abbreviated : Bool) (told many bits : ℕ) (c : Counts) → told ≡ min many (2 ^ 64 - 1) → capped_counts (added_here (addition.Record code abbreviated told bits) c) ≡ capped_counts (added_here (addition.Record code abbreviated many bits) c)
same_values code abbreviated told many bits c is =
    ap (λ (rows : List BlockTally). record { rows = rows; around = (capped_counts c).around })
    (same_here (with_added (addition.Record code abbreviated told bits)) (with_added (addition.Record code abbreviated many bits)) (λ row. same row) c.around c.rows)
  where
    same : (row : BlockTally) → cut_row (with_added (addition.Record code abbreviated told bits) row) ≡ cut_row (with_added (addition.Record code abbreviated many bits) row)
    same row = ap (λ (n : ℕ). record (cut_row (with_added (addition.Record code abbreviated many bits) row)) { values = n }) (ap (λ (n : ℕ). saturated (row.values + n)) is ∙ cut_before row.values many)
