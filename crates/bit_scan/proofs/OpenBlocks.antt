-- Open blocks: one is entered, one ends, and an item is counted in the innermost.
use Rattle.std.proofs.Common.{◌≡◌, ℕ, zero, suc, ◌+◌, ◌-◌, ◌<◌, List, [], ◌∷◌, ◌++◌, length, map, get_or, Some, Result, Ok, Err, refl, sym, ap, ◌∙◌, slice_get, min, arith}
use Rattle.std.specs.Prelude.{OnOk}
use Rattle.std.proofs.Math.ListN.{set}
use Rattle.std.specs.declared.alloc.AllocError.{AllocError}
use Rattle.bit_grammar.specs.Tally.{BlockTally}
use Rattle.bit_grammar.specs.Machine.{Opened, enters}
use Rattle.bit_grammar.specs.Counting.{OpenCount, Counts, with_row, more_inside, count_event}
use Rattle.bit_scan.specs.Additions.{with_added}
use Rattle.bit_scan.specs.Counting.{open_count, open_onto, open_counts, added_here, ClosesCount}
use Rattle.bit_scan.specs.Cut.{cut_open, cut_rows, capped_counts}
use Rattle.bit_grammar.specs.Bits.{saturated}
use Rattle.bit_scan.specs.declared.counter.CountedBlock.{CountedBlock}
use Rattle.bit_scan.specs.declared.rows.Addition.{Addition}
use Rattle.bit_scan.specs.declared.rows.Addition.TheVariants as addition
use Rattle.bit_scan.proofs.Saturating.{sum_stops, rest_stops}

-- the last block is the innermost
pub open_push : (xs : List CountedBlock) (b : CountedBlock) (outer : List OpenCount) → open_onto (xs ++ b ∷ []) outer ≡ open_count b ∷ open_onto xs outer
open_push [] b outer = refl
open_push (x ∷ xs) b outer = open_push xs b (open_count x ∷ outer)

-- ---- a block that is entered

pub entered : (counts : Counts) (opened : Opened) (id place first : ℕ) (rows : List BlockTally) (before after : List CountedBlock) → opened.id ≡ id → opened.first ≡ first
    → rows ≡ cut_rows (with_row (with_added addition.Block) id counts.rows) → open_counts before ≡ map cut_open counts.around → after ≡ before ++ record { id = id; place = place; first = first; inside = 0 } ∷ []
    → ◌≡◌ {A = Counts} (record { rows = rows; around = open_counts after }) (capped_counts (count_event (enters opened) counts))
entered counts opened id place first rows before after id_is first_is counted shown pushed =
    rw (id_is, first_is, counted, pushed, open_push before (record { id = id; place = place; first = first; inside = 0 }) [], shown) refl

-- ---- a block in which an item is counted

-- the last of a list, and those before it
pub record Last (xs : List CountedBlock) (x : CountedBlock) : Type 0 where
  pub front : List CountedBlock
  pub is : xs ≡ front ++ x ∷ []

pub the_last : (xs : List CountedBlock) (x : CountedBlock) → Some x ≡ slice_get xs (length xs - 1) → Last xs x
the_last [] x found = absurd cc
the_last (y ∷ []) x found = let same : x ≡ y = cc in record { front = []; is = rw same refl }
the_last (y ∷ z ∷ ys) x found =
    let k : length (y ∷ z ∷ ys) - 1 ≡ suc (length (z ∷ ys) - 1) = omega arith in
    let more = the_last (z ∷ ys) x (rw k at found) in
    record { front = y ∷ more.front; is = ap (λ (l : List CountedBlock). y ∷ l) more.is }

counted_in : (rows : List BlockTally) (counted : List BlockTally) (around : List OpenCount) (blocks : List CountedBlock) (x : CountedBlock) (addition : Addition) → Last blocks x → open_counts blocks ≡ map cut_open around
    → counted ≡ cut_rows (with_row (with_added addition) x.id rows) → ◌≡◌ {A = Counts} (record { rows = counted; around = open_counts blocks }) (capped_counts (added_here addition (record { rows = rows; around = around })))
counted_in rows counted [] blocks x addition last shown is =
    let pushed : open_count x ∷ open_counts last.front ≡ [] = sym (ap open_counts last.is ∙ open_push last.front x []) ∙ shown in
    absurd cc
counted_in rows counted (b ∷ around) blocks x addition last shown is =
    let pushed : open_count x ∷ open_counts last.front ≡ cut_open b ∷ map cut_open around = sym (ap open_counts last.is ∙ open_push last.front x []) ∙ shown in
    let first : open_count x ≡ cut_open b = cc in
    let same : x.id ≡ b.id = ap (λ (y : OpenCount). y.id) first in
    rw (is, same, shown) refl

pub counted_here : (result : Result (Unit {0}) AllocError) (rows : List BlockTally) (counts : Counts) (blocks : List CountedBlock) (x : CountedBlock) (addition : Addition) → Some x ≡ slice_get blocks (length blocks - 1) → open_counts blocks ≡ map cut_open counts.around
    → OnOk result (rows ≡ cut_rows (with_row (with_added addition) x.id counts.rows)) → OnOk result (◌≡◌ {A = Counts} (record { rows = rows; around = open_counts blocks }) (capped_counts (added_here addition counts)))
counted_here (Ok v) rows counts blocks x addition found shown is = counted_in counts.rows rows counts.around blocks x addition (the_last blocks x found) shown is
counted_here (Err e) rows counts blocks x addition found shown is = tt

-- ---- a block that ends

-- the last block gained bits, if there is one
pub data Gained (bits : ℕ) (xs ys : List CountedBlock) : Type 0 where
  no_block : xs ≡ [] → ys ≡ [] → Gained bits xs ys
  last_block : (front : List CountedBlock) (o : CountedBlock) (sum : ℕ) → xs ≡ front ++ o ∷ [] → ys ≡ front ++ record { id = o.id; place = o.place; first = o.first; inside = sum } ∷ [] → sum ≡ min (o.inside + bits) 18446744073709551615 → Gained bits xs ys

-- a list with its last changed
pub record LastSet (xs : List CountedBlock) (k : ℕ) (o w : CountedBlock) : Type 0 where
  pub front : List CountedBlock
  pub is : xs ≡ front ++ o ∷ []
  pub changed : set xs k w ≡ front ++ w ∷ []

last_set : (xs : List CountedBlock) (k : ℕ) (o w : CountedBlock) → length xs ≡ suc k → o ≡ get_or xs k o → LastSet xs k o w
last_set [] k o w n is = absurd (omega arith)
last_set (x ∷ []) zero o w n is = record { front = []; is = ap (λ (y : CountedBlock). y ∷ []) (sym is); changed = refl }
last_set (x ∷ []) (suc k) o w n is = absurd (omega arith)
last_set (x ∷ y ∷ xs) zero o w n is = absurd (omega arith)
last_set (x ∷ y ∷ xs) (suc k) o w n is =
    let more = last_set (y ∷ xs) k o w (omega arith) is in
    record { front = x ∷ more.front; is = ap (λ (l : List CountedBlock). x ∷ l) more.is; changed = ap (λ (l : List CountedBlock). x ∷ l) more.changed }

pub last_gained : (xs ys : List CountedBlock) (k bits sum : ℕ) (o : CountedBlock) → length xs ≡ suc k → o ≡ get_or xs k o → sum ≡ min (o.inside + bits) 18446744073709551615
    → ys ≡ set xs k (record { id = o.id; place = o.place; first = o.first; inside = sum }) → Gained bits xs ys
last_gained xs ys k bits sum o n is sum_is set_is =
    let l = last_set xs k o (record { id = o.id; place = o.place; first = o.first; inside = sum }) n is in
    last_block l.front o sum l.is (set_is ∙ l.changed) sum_is

gained_inside : (bits : ℕ) (around : List OpenCount) (xs ys : List CountedBlock) → Gained bits xs ys → open_counts xs ≡ map cut_open around → open_counts ys ≡ map cut_open (more_inside bits around)
gained_inside bits [] xs ys (no_block none is) shown = ap open_counts is
gained_inside bits (b ∷ around) xs ys (no_block none is) shown =
    let empty : [] ≡ cut_open b ∷ map cut_open around = sym (ap open_counts none) ∙ shown in
    absurd cc
gained_inside bits [] xs ys (last_block front o sum before after is) shown =
    let some : open_count o ∷ open_counts front ≡ [] = sym (ap open_counts before ∙ open_push front o []) ∙ shown in
    absurd cc
gained_inside bits (b ∷ around) xs ys (last_block front o sum before after is) shown =
    let some : open_count o ∷ open_counts front ≡ cut_open b ∷ map cut_open around = sym (ap open_counts before ∙ open_push front o []) ∙ shown in
    let first : open_count o ≡ cut_open b = cc in
    let others : open_counts front ≡ map cut_open around = cc in
    let inside : sum ≡ saturated (b.inside + bits) = is ∙ sum_stops o.inside b.inside bits (ap (λ (y : OpenCount). y.inside) first) in
    let id : o.id ≡ b.id = ap (λ (y : OpenCount). y.id) first in
    let begins : o.first ≡ b.first = ap (λ (y : OpenCount). y.first) first in
    rw (after, open_push front (record { id = o.id; place = o.place; first = o.first; inside = sum }) [], others, inside, id, begins) refl

pub closed : (around : List OpenCount) (after bits own : ℕ) (all xs ys : List CountedBlock) (block : CountedBlock) → after < 18446744073709551616 → bits ≡ after - block.first → own ≡ bits - block.inside → all ≡ xs ++ block ∷ []
    → Gained bits xs ys → open_counts all ≡ map cut_open around → ClosesCount around after (Some (block, own)) (open_counts ys)
closed [] after bits own all xs ys block fits bits_is own_is popped gained shown =
    let some : open_count block ∷ open_counts xs ≡ [] = sym (ap open_counts popped ∙ open_push xs block []) ∙ shown in
    absurd cc
closed (b ∷ around) after bits own all xs ys block fits bits_is own_is popped gained shown =
    let some : open_count block ∷ open_counts xs ≡ cut_open b ∷ map cut_open around = sym (ap open_counts popped ∙ open_push xs block []) ∙ shown in
    let first : open_count block ≡ cut_open b = cc in
    let others : open_counts xs ≡ map cut_open around = cc in
    let inside : block.inside ≡ saturated b.inside = ap (λ (y : OpenCount). y.inside) first in
    let id : block.id ≡ b.id = ap (λ (y : OpenCount). y.id) first in
    let begins : block.first ≡ b.first = ap (λ (y : OpenCount). y.first) first in
    let bits_same : bits ≡ after - b.first = bits_is ∙ ap (λ (n : ℕ). after - n) begins in
    let bits_fit : bits < 18446744073709551616 = omega (arith, bits_is) in
    (id, own_is ∙ rest_stops bits block.inside b.inside bits_fit inside ∙ ap (λ (n : ℕ). n - b.inside) bits_same, rw bits_same at (gained_inside bits around xs ys gained others))
