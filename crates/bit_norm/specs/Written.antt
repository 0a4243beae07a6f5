-- Records that are read from buffered bits and stored at a position, as a normal form spells them.
use Rattle.std.specs.Prelude.{◌≡◌, ℕ, ◌≤◌, Bool, List, [], ◌∷◌, ◌++◌, length}
use Rattle.bit_grammar.specs.declared.op.Op.{Op}
use Rattle.bit_grammar.specs.Bits.{bits_of}
use Rattle.bit_grammar.specs.Grammar.{Grammar, repeat}
use Rattle.bit_grammar.specs.Marks.{RecordMark}
use Rattle.bit_grammar.specs.Normal.{entry_text, values_bits}
use Rattle.bit_grammar.specs.Record.{scalar}
use Rattle.bit_grammar.specs.Terms.{CodeAndValues}
use Rattle.bit_fields.specs.Buffered.{BufferedBits, Reads, beyond}
use Rattle.bit_fields.specs.Pens.{Puts}
use Rattle.bit_abbrev.specs.Scalars.{HasScalars}
use Rattle.bit_events.specs.Passing.{PassedTo}

-- the bits of records in a normal form, each with its abbreviation id
abbrev pub records_bits : List RecordMark → List Bool
records_bits [] = []
records_bits (mark ∷ marks) = (bits_of 2 3 ++ entry_text mark.code mark.values) ++ records_bits marks

-- The value of each operand was read and stored at a position.
pub record WritesScalars (ops : List Op) (a : BufferedBits) (at : ℕ) (old : List ℕ) (after : ℕ)
    (b : BufferedBits) (new : List ℕ) : Type 0 where
  pub values : List ℕ
  pub len : ℕ
  pub there : len ≤ length a.bits
  pub is : b ≡ beyond a len
  pub reads : HasScalars ops a values b
  pub puts : Puts (values_bits values) at old after new

-- So many values of an array's element were read and stored at a position.
pub record WritesElements (element : Op) (count : ℕ) (a : BufferedBits) (at : ℕ) (old : List ℕ)
    (after : ℕ) (b : BufferedBits) (new : List ℕ) : Type 0 where
  pub values : List ℕ
  pub many : length values ≡ count
  pub len : ℕ
  pub there : len ≤ length a.bits
  pub is : b ≡ beyond a len
  pub reads : Reads (repeat count (scalar element)) a values b
  pub puts : Puts (values_bits values) at old after new

-- A record that a rule reads comes first, takes so many bits and has so many values. It was stored at a position.
pub record WritesRecord (rule : Grammar CodeAndValues) (a : BufferedBits) (at : ℕ) (old : List ℕ)
    (after len count : ℕ) (new : List ℕ) : Type 0 where
  pub code : ℕ
  pub values : List ℕ
  pub many : length values ≡ count
  pub there : len ≤ length a.bits
  pub reads : Reads rule a (record { code = code; values = values }) (beyond a len)
  pub puts : Puts (bits_of 2 3 ++ entry_text code values) at old after new

-- Records that come first were stored at a position. So they come behind any others up to the first bits, in a block with ids of
-- this width and these definitions in force, where `room` values may still come.
pub record WritesRun (width : ℕ) (definitions : List (List Op)) (room : ℕ) (a : BufferedBits)
    (at : ℕ) (old : List ℕ) (after left : ℕ) (b : BufferedBits) (new : List ℕ) : Type 0 where
  pub records : List RecordMark
  pub puts : Puts (records_bits records) at old after new
  pub passes : (most : ℕ) (first : BufferedBits) (others : List RecordMark)
      → PassedTo width definitions most first others room a
      → PassedTo width definitions most first (others ++ records) left b
