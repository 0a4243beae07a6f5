-- Terms of the rules, and of the format in its own words: numbers and characters of fields, codes with values, tables of
-- definitions, and whole inputs. Source: "Variable Width Value", "Fixed Width Value", "Data Records", "#0 - BLOCKINFO Block",
-- "Bitcode Wrapper Format".
use Rattle.std.specs.Prelude.{ℕ, ◌+◌, ◌-◌, ◌/◌, List, [], ◌∷◌, ◌++◌, Option, Some, None, nat_lt, ◌==◌, if◌then◌else◌}
use Rattle.bit_grammar.specs.declared.op.Op.{Op}
use Rattle.bit_grammar.specs.Marks.{Marks}

-- how many chunks a value of 64 bits may take: the least number that has 64 payload bits
abbrev pub chunk_limit : ℕ → ℕ
chunk_limit payload = (63 + payload) / payload

-- the ASCII code of a character: the letters, the digits, the full stop and the underscore
abbrev pub character : ℕ → ℕ
character c = if nat_lt c 26 then 97 + c else if nat_lt c 52 then 65 + (c - 26) else if nat_lt c 62
    then 48 + (c - 52) else if c == 62 then 46 else 95

-- a code and the values
pub record CodeAndValues : Type 0 where
  pub code : ℕ
  pub values : List ℕ

-- the definitions that BLOCKINFO blocks made, for each block id in the order in which they were made
abbrev pub Table : Type 0
Table = ℕ → List (List Op)

-- the empty table
abbrev pub no_definitions : Table
no_definitions id = []

-- a table with one more definition at the end of an id's list
abbrev pub defined_at : ℕ → List Op → Table → Table
defined_at id ops table other = if other == id then table other ++ ops ∷ [] else table other

-- in a BLOCKINFO block: the id of the described block, and the table that is being made
pub record BlockInfo : Type 0 where
  pub described : Option ℕ
  pub made : Table

-- a block with id 0 is a BLOCKINFO block
abbrev pub info_for : ℕ → Option BlockInfo
info_for id = if id == 0 then Some (record { described = None; made = no_definitions }) else None

pub record Wrapper : Type 0 where
  pub offset : ℕ
  pub size : ℕ
  pub cpu : ℕ

-- what comes before the blocks
pub record Head : Type 0 where
  -- of the stream, a number of 32 bits
  pub magic : ℕ
  pub wrapper : Option Wrapper

-- a marked tree
pub record Marked : Type 0 where
  pub head : Head
  pub blocks : Marks
  -- the bit after the stream
  pub after : ℕ
