-- The analysis in one pass over the events.
-- This project's own.
use Rattle.std.specs.Prelude.{ℕ, ◌+◌, ◌-◌, List, [], ◌∷◌, length, ◌==◌, if◌then◌else◌}
use Rattle.bit_grammar.specs.Marks.{RecordMark}
use Rattle.bit_grammar.specs.Machine.{Event, enters, defines, notes, leaves}
use Rattle.bit_grammar.specs.Tally.{CodeTally, BlockTally, record_bits, is_abbreviated}

-- rows with a change to the one of a key; if there is none, to a new one at their end
abbrev pub rows_with : {Row : Type 0} → (key : Row → ℕ) → (fresh : ℕ → Row) → (Row → Row) → ℕ
    → List Row → List Row
rows_with key fresh change k [] = change (fresh k) ∷ []
rows_with key fresh change k (row ∷ rows) = if key row
    == k then change row ∷ rows else row ∷ rows_with key fresh change k rows

-- a code with no use yet
abbrev pub fresh_code : ℕ → CodeTally
fresh_code code = record { code = code; count = 0; bits = 0 }

-- an id with no block yet
abbrev pub fresh_row : ℕ → BlockTally
fresh_row id = record {
  id = id;
  blocks = 0;
  bits = 0;
  definitions = 0;
  records = 0;
  abbreviated = 0;
  values = 0;
  codes = [];
}

-- ---- the change of an event to its row

-- a record to the row of its code
abbrev pub one_use : RecordMark → CodeTally → CodeTally
one_use mark row = record {
  code = row.code;
  count = row.count + 1;
  bits = row.bits + record_bits mark;
}

-- a block that begins
abbrev pub one_block : BlockTally → BlockTally
one_block row = record row { blocks = row.blocks + 1 }

-- the own bits of a block that ends
abbrev pub more_bits : ℕ → BlockTally → BlockTally
more_bits bits row = record row { bits = row.bits + bits }

-- a definition
abbrev pub one_definition : BlockTally → BlockTally
one_definition row = record row { definitions = row.definitions + 1 }

-- a record
abbrev pub one_record : RecordMark → BlockTally → BlockTally
one_record mark row = record row {
  records = row.records + 1;
  abbreviated = row.abbreviated + (if is_abbreviated mark then 1 else 0);
  values = row.values + length mark.values;
  codes = rows_with (λ (x : CodeTally). x.code) fresh_code (one_use mark) mark.code row.codes;
}

-- ---- the pass

-- an open block: its id, its first bit, and the bits of the blocks in it that have ended
pub record OpenCount : Type 0 where
  pub id : ℕ
  pub first : ℕ
  pub inside : ℕ

-- the rows so far, and the open blocks, the innermost first
pub record Counts : Type 0 where
  pub rows : List BlockTally
  pub around : List OpenCount

-- before the first event
abbrev pub no_counts : Counts
no_counts = record { rows = []; around = [] }

-- the rows with a change to that of an id
abbrev pub with_row : (BlockTally → BlockTally) → ℕ → List BlockTally → List BlockTally
with_row change id rows = rows_with (λ (x : BlockTally). x.id) fresh_row change id rows

-- the rows with a change to that of the innermost open block
abbrev pub count_here : (BlockTally → BlockTally) → List OpenCount → List BlockTally
    → List BlockTally
count_here change [] rows = rows
count_here change (b ∷ around) rows = with_row change b.id rows

-- the open blocks with more bits in the innermost
abbrev pub more_inside : ℕ → List OpenCount → List OpenCount
more_inside bits [] = []
more_inside bits (b ∷ around) = record { id = b.id; first = b.first; inside = b.inside + bits }
    ∷ around

-- the innermost block ends: its own bits go to its row, and all its bits to the block around it
abbrev pub count_end : (after : ℕ) → List OpenCount → List BlockTally → Counts
count_end after [] rows = record { rows = rows; around = [] }
count_end after (b ∷ around) rows = record {
  rows = with_row
      (more_bits (after - b.first - b.inside)) b.id rows;
  around = more_inside (after - b.first) around;
}

-- the counts after an event
abbrev pub count_event : Event → Counts → Counts
count_event (enters o) c = record {
  rows = with_row one_block o.id c.rows;
  around = record { id = o.id; first = o.first; inside = 0 } ∷ c.around;
}
count_event (defines mark) c = record {
  rows = count_here one_definition c.around c.rows;
  around = c.around;
}
count_event (notes mark) c = record {
  rows = count_here (one_record mark) c.around c.rows;
  around = c.around;
}
count_event (leaves after) c = count_end after c.around c.rows

-- the counts after events in order
abbrev pub count_events : List Event → Counts → Counts
count_events [] c = c
count_events (event ∷ events) c = count_events events (count_event event c)
