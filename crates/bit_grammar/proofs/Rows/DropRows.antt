-- Worked inputs and trees without some of their blocks and records.
use Rattle.std.proofs.Common.{ℕ, ◌≡◌, List, [], ◌∷◌, ◌++◌, Ok, Err, refl}
use Rattle.bit_grammar.specs.declared.reason.Reason.TheVariants.{BadSetBid, NestedInBlockInfo, NoBlockSet}
use Rattle.bit_grammar.specs.declared.info.RecordName.{RecordName}
use Rattle.bit_grammar.specs.Setting.{Setting, drop_info}
use Rattle.bit_grammar.specs.Under.{items_under}
use Rattle.bit_grammar.specs.Bits.{bits_of_bytes}
use Rattle.bit_grammar.specs.Grammar.{at}
use Rattle.bit_grammar.specs.Fields.{fixed, vbr, char6, align32, byte}
use Rattle.bit_grammar.specs.Definition.{kind, valued, operand, operands, definition}
use Rattle.bit_grammar.specs.Record.{value_count, unabbreviated, scalar, values_of, abbreviated}
use Rattle.bit_grammar.specs.Forest.{Forest, empty, a_block, a_record}
use Rattle.bit_grammar.specs.Blocks.{block_id, new_width, block_head, end_of_block, define, by_definition, entry, describe, record_after, nested, item_after, item, block, top_block}
use Rattle.bit_grammar.specs.Input.{version, offset, wrapper, any_bits, wrapper_and_gap, inner_magic, top_blocks, stream, wrapped, input, outer_wrapper}
use Rattle.bit_grammar.specs.Normal.{normal, normal_form}
use Rattle.bit_grammar.proofs.Rows.Hex.{hex}
use Rattle.bit_grammar.proofs.Rows.Worked.{usual, blocks, left, tree, rewritten}
use Rattle.bit_grammar.proofs.Readings.Readers.{reading_input}

abbrev magic : List ℕ
magic = hex "4243C0DE"

-- a BLOCKINFO block that gives block 8 the definition [Literal 1, Fixed 7]
abbrev info : List ℕ
info = hex "01080000 02000000 0701A218 20070000"

-- a block 8 that uses it for the value 100
abbrev use_of_info : List ℕ
use_of_info = hex "210C0000 01000000 24030000"

record Drops : Type 0 where
  -- refuses: a BLOCKINFO block that is skipped, so that its definitions are lost
  definitions_hold : rewritten drop_info usual (magic ++ info ++ use_of_info) ≡ Ok (bits_of_bytes (hex "4243C0DE 21080000 01000000 07013900"))
  tree_of_the_rest : left drop_info usual (magic ++ info ++ use_of_info) ≡ Ok (a_block 8 (a_record 1 (100 ∷ []) empty) empty)
  -- if BLOCKINFO blocks are dropped an input has the tree of its normal form; if they are kept, another tree
  same_as_normal_form : tree drop_info usual (magic ++ info ++ use_of_info) ≡ tree drop_info usual (hex "4243C0DE 21080000 01000000 07013900")
  other_where_kept : blocks usual (magic ++ info ++ use_of_info) ≡ Ok (a_block 0 (a_record 1 (8 ∷ []) empty) (a_block 8 (a_record 1 (100 ∷ []) empty) empty))
  normal_form_where_kept : blocks usual (hex "4243C0DE 21080000 01000000 07013900") ≡ Ok (a_block 8 (a_record 1 (100 ∷ []) empty) empty)
  -- refuses: only BLOCKINFO blocks at the top left out
  inside_a_block : rewritten drop_info usual (hex "4243C0DE 210C0000 08000000 01100000 02000000 0701A218 20070000 41180000 01000000 24030000 00000000") ≡ Ok (bits_of_bytes (hex "4243C0DE 21080000 04000000 21080000 01000000 07013900 00000000"))
  nothing_left : tree drop_info usual (magic ++ info) ≡ Ok (record { magic = 0xDEC04342; blocks = empty })
  magic_left : rewritten drop_info usual (magic ++ info) ≡ Ok (bits_of_bytes magic)

drops : Drops
unfolding fixed vbr char6 align32 byte kind valued operand operands definition value_count unabbreviated scalar values_of abbreviated block_id new_width block_head end_of_block define by_definition entry describe record_after nested item_after item block top_block version offset wrapper any_bits wrapper_and_gap inner_magic top_blocks stream wrapped input outer_wrapper reading_input normal normal_form
drops = record { definitions_hold = refl; tree_of_the_rest = refl; same_as_normal_form = refl; other_where_kept = refl; normal_form_where_kept = refl; inside_a_block = refl; nothing_left = refl; magic_left = refl }

record DroppedFaults : Type 0 where
  -- blocks that are left out are judged too
  name_of_no_block : left drop_info usual (hex "4243C0DE 01080000 01000000 0B000000") ≡ Err (at NoBlockSet 96)
  definition_for_no_block : left drop_info usual (hex "4243C0DE 01080000 01000000 02000000") ≡ Err (at NoBlockSet 96)
  no_id : left drop_info usual (hex "4243C0DE 01080000 01000000 07000000") ≡ Err (at BadSetBid 96)
  block_in_info : left drop_info usual (hex "4243C0DE 01080000 01000000 01000000") ≡ Err (at NestedInBlockInfo 96)

dropped_faults : DroppedFaults
unfolding fixed vbr char6 align32 byte kind valued operand operands definition value_count unabbreviated scalar values_of abbreviated block_id new_width block_head end_of_block define by_definition entry describe record_after nested item_after item block top_block version offset wrapper any_bits wrapper_and_gap inner_magic top_blocks stream wrapped input outer_wrapper reading_input
dropped_faults = record { name_of_no_block = refl; definition_for_no_block = refl; no_id = refl; block_in_info = refl }

-- ---- under names

abbrev without : List ℕ → List RecordName → Setting
without ids names = record { blocks = ids; records = names }

abbrev name : (block code : ℕ) → RecordName
name block code = record { block = block; code = code }

-- blocks 8 around blocks 9 and 8, with records 1 and 2 in each
abbrev inner : Forest → Forest
inner rest = a_record 1 (11 ∷ []) (a_record 2 (12 ∷ []) rest)

abbrev tower : Forest
tower = a_block 8 (a_record 1 (1 ∷ []) (a_block 9 (inner empty) (a_record 2 (2 ∷ []) (a_block 8 (inner empty) (a_record 1 (3 ∷ []) empty))))) (a_block 9 (inner empty) empty)

-- a BLOCKINFO block in a block 8, and after it a record with the code of its records
abbrev described : Forest
described = a_block 8 (a_block 0 (a_record 1 (8 ∷ []) empty) (a_record 1 (5 ∷ []) empty)) empty

record Named : Type 0 where
  -- refuses: only blocks at the top left out; the items after a block that is left out lost
  blocks_at_any_depth : items_under (without (9 ∷ []) []) 0 tower ≡ a_block 8 (a_record 1 (1 ∷ []) (a_record 2 (2 ∷ []) (a_block 8 (inner empty) (a_record 1 (3 ∷ []) empty)))) empty
  -- refuses: the blocks in a block that is left out kept
  all_that_they_hold : items_under (without (8 ∷ []) []) 0 tower ≡ a_block 9 (inner empty) empty
  -- a block that is left out in one that is left out
  one_in_another : items_under (without (8 ∷ 9 ∷ []) []) 0 tower ≡ empty
  -- refuses: a record of another block with the same code left out; records after a block taken for records of it
  records_around_blocks : items_under (without [] (name 8 1 ∷ [])) 0 tower ≡ a_block 8 (a_block 9 (inner empty) (a_record 2 (2 ∷ []) (a_block 8 (a_record 2 (12 ∷ []) empty) empty))) (a_block 9 (inner empty) empty)
  records_of_inner_blocks : items_under (without [] (name 9 2 ∷ name 9 1 ∷ [])) 0 tower ≡ a_block 8 (a_record 1 (1 ∷ []) (a_block 9 empty (a_record 2 (2 ∷ []) (a_block 8 (inner empty) (a_record 1 (3 ∷ []) empty))))) (a_block 9 empty empty)
  both : items_under (without (9 ∷ []) (name 8 1 ∷ [])) 0 tower ≡ a_block 8 (a_record 2 (2 ∷ []) (a_block 8 (a_record 2 (12 ∷ []) empty) empty)) empty
  -- refuses: a BLOCKINFO block with only definitions for no block left
  records_of_info : items_under (without [] (name 0 1 ∷ [])) 0 described ≡ described
  records_behind_info : items_under (without [] (name 0 1 ∷ name 8 1 ∷ [])) 0 described ≡ a_block 8 (a_block 0 (a_record 1 (8 ∷ []) empty) empty) empty
  info_by_its_id : items_under (without (0 ∷ []) []) 0 described ≡ items_under drop_info 0 described
  names_of_nothing : items_under (without (7 ∷ 10 ∷ []) (name 7 1 ∷ name 8 3 ∷ [])) 0 tower ≡ tower

named : Named
named = record { blocks_at_any_depth = refl; all_that_they_hold = refl; one_in_another = refl; records_around_blocks = refl; records_of_inner_blocks = refl; both = refl; records_of_info = refl; records_behind_info = refl; info_by_its_id = refl; names_of_nothing = refl }

-- a block 8 with the record [1, 100]
abbrev one_record : List ℕ
one_record = hex "21080000 01000000 07013900"

record NamedInput : Type 0 where
  record_left_out : rewritten (without [] (name 8 1 ∷ [])) usual (magic ++ one_record) ≡ Ok (bits_of_bytes (hex "4243C0DE 21080000 01000000 00000000"))
  record_kept : rewritten (without [] (name 8 100 ∷ name 9 1 ∷ [])) usual (magic ++ one_record) ≡ Ok (bits_of_bytes (magic ++ one_record))

named_input : NamedInput
unfolding fixed vbr char6 align32 byte kind valued operand operands definition value_count unabbreviated scalar values_of abbreviated block_id new_width block_head end_of_block define by_definition entry describe record_after nested item_after item block top_block version offset wrapper any_bits wrapper_and_gap inner_magic top_blocks stream wrapped input outer_wrapper reading_input normal normal_form
named_input = record { record_left_out = refl; record_kept = refl }
