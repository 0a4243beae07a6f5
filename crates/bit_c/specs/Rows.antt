-- An analysis as rows that C sees.
use Rattle.std.specs.Prelude.{◌≡◌, ◌<◌, ◌⊎◌, ℕ, true, List, length, map, flat_map, replicate}
use Rattle.bit_grammar.specs.Blocks as blocks
use Rattle.bit_grammar.specs.Tally.{CodeTally, BlockTally, Tally}
use Rattle.bit_fields.specs.Opening.{magic_number}
use Rattle.bit_scan.specs.Analysing.{HasTally}
use Rattle.bit_c.specs.declared.analysing.BsBlockRow.{BsBlockRow}
use Rattle.bit_c.specs.declared.analysing.BsCodeRow.{BsCodeRow}
use Rattle.bit_c.specs.declared.analysing.BsTally.{BsTally}
use Rattle.bit_c.specs.declared.outcome.Outcome.{Outcome}
use Rattle.bit_c.specs.declared.outcome.Outcome.TheVariants.{Done, Memory, Room}
use Rattle.bit_c.specs.Calls.{FailsCall}
use Rattle.bit_c.specs.Handing.{FillsRoom}

abbrev pub code_told : CodeTally → BsCodeRow
code_told row = record { code = row.code; count = row.count; bits = row.bits }

abbrev pub row_told : BlockTally → BsBlockRow
row_told row = record {
  id = row.id;
  blocks = row.blocks;
  bits = row.bits;
  definitions = row.definitions;
  records = row.records;
  abbreviated = row.abbreviated;
  values = row.values;
  codes = length row.codes;
}

-- the rows of codes, those of the first block id first
abbrev pub codes_told : List BlockTally → List BsCodeRow
codes_told rows = flat_map (λ row. map code_told row.codes) rows

-- the magic, the bits, and the numbers of rows
pub record TellsTally (tally : Tally) (told : BsTally) : Type 0 where
  pub magic : magic_number told.magic ≡ tally.magic
  pub bits : told.bits ≡ tally.bits
  pub blocks : told.blocks ≡ length tally.rows
  pub codes : told.codes ≡ length (codes_told tally.rows)

-- nothing was put into the two rooms
abbrev pub LeavesRows : (old_blocks new_blocks : List BsBlockRow)
    → (old_codes new_codes : List BsCodeRow) → Type 0
LeavesRows old_blocks new_blocks old_codes new_codes = (new_blocks ≡ old_blocks)
    × (new_codes ≡ old_codes)

-- all rows are at the start of the two rooms; or one room is too small, and nothing was put there
abbrev pub GivesRows : List BsBlockRow → List BsCodeRow → (old_blocks new_blocks : List BsBlockRow)
    → (old_codes new_codes : List BsCodeRow) → Outcome → Type 0
GivesRows rows codes old_blocks new_blocks old_codes new_codes Done = FillsRoom rows old_blocks true
    new_blocks × FillsRoom codes old_codes true new_codes
GivesRows rows codes old_blocks new_blocks old_codes new_codes
    Room = ((length old_blocks < length rows) ⊎ (length old_codes < length codes))
    × LeavesRows old_blocks new_blocks old_codes new_codes
GivesRows rows codes old_blocks new_blocks old_codes new_codes outcome = ⊥

-- ---- a call

abbrev pub no_tally : BsTally
no_tally = record { magic = replicate 4 0; bits = 0; blocks = 0; codes = 0 }

-- an analysis was set, and its rows were handed out; or a room is too small for them; or an allocation failed, and nothing was set
abbrev pub GivesTally : Tally → BsTally → (old_blocks new_blocks : List BsBlockRow)
    → (old_codes new_codes : List BsCodeRow) → Outcome → Type 0
GivesTally tally told old_blocks new_blocks old_codes new_codes Done = TellsTally tally told
    × GivesRows (map row_told tally.rows) (codes_told tally.rows) old_blocks new_blocks old_codes
    new_codes Done
GivesTally tally told old_blocks new_blocks old_codes new_codes Room = TellsTally tally told
    × GivesRows (map row_told tally.rows) (codes_told tally.rows) old_blocks new_blocks old_codes
    new_codes Room
GivesTally tally told old_blocks new_blocks old_codes new_codes Memory = (told ≡ no_tally)
    × LeavesRows old_blocks new_blocks old_codes new_codes
GivesTally tally told old_blocks new_blocks old_codes new_codes outcome = ⊥

-- The analysis of the bytes was set, and its rows were handed out; or a room is too small for them; or nothing was set, for this
-- reason.
abbrev pub Analyses : blocks.Limits → List ℕ → BsTally → (old_blocks new_blocks : List BsBlockRow)
    → (old_codes new_codes : List BsCodeRow) → Outcome → Type 0
Analyses limits bytes told old_blocks new_blocks old_codes new_codes Done = (tally : Tally)
    × HasTally limits bytes tally × GivesTally tally told old_blocks new_blocks old_codes new_codes
    Done
Analyses limits bytes told old_blocks new_blocks old_codes new_codes Room = (tally : Tally)
    × HasTally limits bytes tally × GivesTally tally told old_blocks new_blocks old_codes new_codes
    Room
Analyses limits bytes told old_blocks new_blocks old_codes new_codes outcome = FailsCall limits
    bytes outcome × (told ≡ no_tally) × LeavesRows old_blocks new_blocks old_codes new_codes
