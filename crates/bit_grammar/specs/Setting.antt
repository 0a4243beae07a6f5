-- Settings: which blocks and records of a tree are left out, by names. Source: this project's own.
use Rattle.std.specs.Prelude.{ℕ, Bool, not, ◌&&◌, List, [], ◌∷◌, ◌==◌}
use Rattle.std.specs.List.{list_any}
use Rattle.bit_grammar.specs.declared.info.RecordName.{RecordName}
use Rattle.bit_grammar.specs.declared.info.Info.{Info}
use Rattle.bit_grammar.specs.declared.info.Info.TheVariants.{Keep, Drop, Without}

-- the ids of the blocks that are left out, and the names of the records
pub record Setting : Type 0 where
  pub blocks : List ℕ
  pub records : List RecordName

-- nothing is left out
abbrev pub keep : Setting
keep = record { blocks = []; records = [] }

-- the BLOCKINFO blocks are left out
abbrev pub drop_info : Setting
drop_info = record { blocks = 0 ∷ []; records = [] }

-- whether blocks with this id are kept
abbrev pub keeps : Setting → (id : ℕ) → Bool
keeps setting id = not (list_any (λ name. name == id) setting.blocks)

-- whether a name is that of the records with this code in blocks with this id; those of BLOCKINFO blocks have none
abbrev pub is_named : (block code : ℕ) → RecordName → Bool
is_named block code name = not (block == 0) && (name.block == block) && (name.code == code)

-- whether records with this code are kept in blocks with this id
abbrev pub keeps_record : Setting → (block code : ℕ) → Bool
keeps_record setting block code = not (list_any (is_named block code) setting.records)

-- whether no record in blocks with this id has a name
abbrev pub keeps_records : Setting → (block : ℕ) → Bool
keeps_records setting block = not (list_any (λ name. name.block == block) setting.records)

-- the setting of the program
abbrev pub setting_of : Info → Setting
setting_of Keep = keep
setting_of Drop = drop_info
setting_of (Without blocks records) = record { blocks = blocks.now; records = records.now }
