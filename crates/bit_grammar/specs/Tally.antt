-- The analysis of a stream: the sums over its blocks and records, for each block id. This project's own.
use Rattle.std.specs.Prelude.{ℕ, ◌+◌, ◌-◌, ◌*◌, Bool, not, List, [], ◌∷◌, ◌++◌, length, map, filter, sum_by, count_by, Option, Some, None, nat_le, ◌==◌}
use Rattle.bit_grammar.specs.Marks.{BlockMark, RecordMark, DefinitionMark, Marks, no_marks, marked_block, marked_record, marked_definition}
use Rattle.bit_grammar.specs.Terms.{Wrapper, Marked}

-- ---- blocks, records and definitions of a tree

-- a block and its items
pub record FullBlock : Type 0 where
  pub mark : BlockMark
  pub inner : Marks

-- a record or a definition, and the id of the block that contains it
pub record Placed (Mark : Type 0) : Type 0 where
  pub block : ℕ
  pub mark : Mark

-- the blocks to any depth, in the order in which they begin
abbrev pub blocks_in : Marks → List FullBlock
blocks_in no_marks = []
blocks_in (marked_block mark inner rest) = record { mark = mark; inner = inner }
    ∷ (blocks_in inner ++ blocks_in rest)
blocks_in (marked_record mark rest) = blocks_in rest
blocks_in (marked_definition mark rest) = blocks_in rest

-- the records to any depth, in order; those that are in no other block are in this one
abbrev pub records_in : (block : ℕ) → Marks → List (Placed RecordMark)
records_in block no_marks = []
records_in block (marked_block mark inner rest) = records_in mark.id inner ++ records_in block rest
records_in block (marked_record mark rest) = record { block = block; mark = mark }
    ∷ records_in block rest
records_in block (marked_definition mark rest) = records_in block rest

-- the definitions likewise
abbrev pub definitions_in : (block : ℕ) → Marks → List (Placed DefinitionMark)
definitions_in block no_marks = []
definitions_in block (marked_block mark inner rest) = definitions_in mark.id inner
    ++ definitions_in block rest
definitions_in block (marked_record mark rest) = definitions_in block rest
definitions_in block (marked_definition mark rest) = record { block = block; mark = mark }
    ∷ definitions_in block rest

-- those in blocks with this id
abbrev pub placed_in : {Mark : Type 0} → ℕ → List (Placed Mark) → List Mark
placed_in id items = map (λ x. x.mark) (filter (λ x. x.block == id) items)

-- ---- bits

-- the bits of a block
abbrev pub block_bits : BlockMark → ℕ
block_bits mark = mark.after - mark.first

-- the bits of a record
abbrev pub record_bits : RecordMark → ℕ
record_bits mark = mark.after - mark.first

-- the bits of the blocks at this level
abbrev pub bits_in : Marks → ℕ
bits_in no_marks = 0
bits_in (marked_block mark inner rest) = block_bits mark + bits_in rest
bits_in (marked_record mark rest) = bits_in rest
bits_in (marked_definition mark rest) = bits_in rest

-- the bits of a block without those of the blocks directly in it
abbrev pub own_bits : FullBlock → ℕ
own_bits block = block_bits block.mark - bits_in block.inner

-- ---- rows

-- each number once, in the order in which they first occur
abbrev pub distinct : List ℕ → List ℕ
distinct [] = []
distinct (x ∷ xs) = x ∷ filter (λ y. not (y == x)) (distinct xs)

-- the records of a code
pub record CodeTally : Type 0 where
  pub code : ℕ
  pub count : ℕ
  pub bits : ℕ

-- the blocks with an id, and the items directly in them
pub record BlockTally : Type 0 where
  pub id : ℕ
  pub blocks : ℕ
  pub bits : ℕ
  pub definitions : ℕ
  pub records : ℕ
  -- the records by a definition
  pub abbreviated : ℕ
  pub values : ℕ
  -- in the order in which they are first used
  pub codes : List CodeTally

-- the magic, the bits of the stream, and the rows in the order in which blocks with their ids first begin
pub record Tally : Type 0 where
  pub magic : ℕ
  pub bits : ℕ
  pub rows : List BlockTally

-- the records with a code
abbrev pub with_code : ℕ → List RecordMark → List RecordMark
with_code code records = filter (λ r. r.code == code) records

-- the row of a code among records
abbrev pub code_row : List RecordMark → ℕ → CodeTally
code_row records code = record {
  code = code;
  count = length (with_code code records);
  bits = sum_by record_bits (with_code code records);
}

-- a row for each code that they use
abbrev pub code_rows : List RecordMark → List CodeTally
code_rows records = map (code_row records) (distinct (map (λ r. r.code) records))

-- whether a record uses a definition: its id is 4 or more
abbrev pub is_abbreviated : RecordMark → Bool
is_abbreviated mark = nat_le 4 mark.abbreviation

-- a row of an id, from the blocks with that id, and the records and definitions directly in them
abbrev pub row_by : (id : ℕ) → List FullBlock → List RecordMark → List DefinitionMark → BlockTally
row_by id blocks records definitions = record {
  id = id;
  blocks = length blocks;
  bits = sum_by own_bits blocks;
  definitions = length definitions;
  records = length records;
  abbreviated = count_by is_abbreviated records;
  values = sum_by (λ r. length r.values) records;
  codes = code_rows records;
}

-- the blocks with an id
abbrev pub with_id : ℕ → List FullBlock → List FullBlock
with_id id blocks = filter (λ b. b.mark.id == id) blocks

-- The row of an id. There are only blocks at the top, so the 0 is the id of no record or definition there.
abbrev pub row_of : Marks → ℕ → BlockTally
row_of marks id = row_by id (with_id id (blocks_in marks)) (placed_in id (records_in 0 marks))
    (placed_in id (definitions_in 0 marks))

-- a row for each id of a block
abbrev pub rows_of : Marks → List BlockTally
rows_of marks = map (row_of marks) (distinct (map (λ b. b.mark.id) (blocks_in marks)))

-- ---- the whole

-- the bit where the stream begins
abbrev pub stream_begin : Option Wrapper → ℕ
stream_begin None = 0
stream_begin (Some w) = 8 * w.offset

-- the bits of the stream, from its magic to its end
abbrev pub stream_bits : Marked → ℕ
stream_bits m = m.after - stream_begin m.head.wrapper

-- the analysis of a marked tree
abbrev pub tally_of : Marked → Tally
tally_of m = record { magic = m.head.magic; bits = stream_bits m; rows = rows_of m.blocks }

-- the bits of all rows
abbrev pub bits_of_rows : Tally → ℕ
bits_of_rows tally = sum_by (λ row. row.bits) tally.rows
