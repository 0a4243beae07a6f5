-- The view of a counter.
use Rattle.std.specs.Prelude.{◌≡◌, ℕ, ◌-◌, List, [], ◌∷◌, map, Option, Some, None}
use Rattle.bit_grammar.specs.Counting.{OpenCount, Counts, count_here, more_inside}
use Rattle.bit_scan.specs.Additions.{with_added}
use Rattle.bit_scan.specs.Cut.{cut_open}
use Rattle.bit_scan.specs.declared.counter.CountedBlock.{CountedBlock}
use Rattle.bit_scan.specs.declared.rows.Addition.{Addition}

abbrev pub open_count : CountedBlock → OpenCount
open_count b = record { id = b.id; first = b.first; inside = b.inside }

-- open blocks, the outermost first, within others
abbrev pub open_onto : List CountedBlock → List OpenCount → List OpenCount
open_onto [] outer = outer
open_onto (b ∷ blocks) outer = open_onto blocks (open_count b ∷ outer)

-- open blocks, the outermost first, as a list with the innermost first
abbrev pub open_counts : List CountedBlock → List OpenCount
open_counts blocks = open_onto blocks []

-- something added to the row of the innermost open block
abbrev pub added_here : Addition → Counts → Counts
added_here addition c = record {
  rows = count_here (with_added addition) c.around c.rows;
  around = c.around;
}

-- The innermost open block was closed before a bit, with its own bits; its bits went to the block around it. Or there was
-- none.
abbrev pub ClosesCount : List OpenCount → (after : ℕ) → Option (CountedBlock × ℕ) → List OpenCount
    → Type 0
ClosesCount [] after None new = new ≡ []
ClosesCount [] after (Some x) new = ⊥
ClosesCount (b ∷ around) after None new = ⊥
ClosesCount (b ∷ around) after (Some x) new = (x.0.id ≡ b.id) × (x.1 ≡ after - b.first - b.inside)
    × (new ≡ map cut_open (more_inside (after - b.first) around))
