-- What is judged before blocks are a document.
use Rattle.std.specs.Prelude.{◌≡◌, ◌≢◌, ◌^◌, ◌<◌, ◌≤◌, Bool, true, false, ◌&&◌, ◌==◌, if◌then◌else◌}
use Rattle.std.specs.List.{AllByRecursion}
use Rattle.bit_grammar.specs.Forest.{Forest, empty, a_block, a_record, Tree, forest_depth, set_bid, names_block, DescribesBlocks, wrapper_magic}
use Rattle.bit_tree.specs.declared.document.DocumentReason.{DocumentReason}
use Rattle.bit_tree.specs.declared.document.DocumentReason.TheVariants.{WrapperMagic, DepthOver255, BlockInfoRule}

-- ids have 32 bits, codes and values 64, by their types
abbrev pub InRange : Forest → Type 0
InRange empty = Unit {0}
InRange (a_block id inner rest) = (id < 2 ^ 32) × InRange inner × InRange rest
InRange (a_record code values rest) = (code < 2 ^ 64) × AllByRecursion (λ v. v < 2 ^ 64) values
    × InRange rest

-- each BLOCKINFO block describes blocks
abbrev pub KeepsInfoRule : Forest → Type 0
KeepsInfoRule empty = Unit {0}
KeepsInfoRule (a_block id inner rest) = (id ≡ 0 → DescribesBlocks false inner) × KeepsInfoRule inner
    × KeepsInfoRule rest
KeepsInfoRule (a_record code values rest) = KeepsInfoRule rest

-- this is the first reason for which a tree is refused
abbrev pub IsFirstReason : Tree → DocumentReason → Type 0
IsFirstReason tree WrapperMagic = tree.magic ≡ wrapper_magic
IsFirstReason tree DepthOver255 = (tree.magic ≢ wrapper_magic) × (255 < forest_depth tree.blocks)
IsFirstReason tree BlockInfoRule = (tree.magic ≢ wrapper_magic) × (forest_depth tree.blocks ≤ 255)
    × (KeepsInfoRule tree.blocks → ⊥)

-- ---- the same as tests

-- whether these are only records, if a block is described already or else the first record describes one
abbrev pub describes_blocks : (described : Bool) → Forest → Bool
describes_blocks described empty = true
describes_blocks described (a_block id inner rest) = false
describes_blocks described (a_record code values rest) = (if code
    == set_bid then names_block values else described) && describes_blocks true rest

-- whether each BLOCKINFO block describes blocks
abbrev pub keeps_info_rule : Forest → Bool
keeps_info_rule empty = true
keeps_info_rule (a_block id inner rest) = (if id == 0 then describes_blocks false inner else true)
    && keeps_info_rule inner && keeps_info_rule rest
keeps_info_rule (a_record code values rest) = keeps_info_rule rest
