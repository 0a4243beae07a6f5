-- Worked inputs about BLOCKINFO, and about the scope of a definition.
use Rattle.std.proofs.Common.{ℕ, ◌≡◌, List, [], ◌∷◌, ◌++◌, Err, refl}
use Rattle.bit_grammar.specs.declared.reason.Reason.TheVariants.{BadSetBid, NestedInBlockInfo, NoBlockSet, UndefinedAbbrev}
use Rattle.bit_grammar.specs.Grammar.{at}
use Rattle.bit_grammar.specs.Fields.{fixed, vbr, char6, align32, byte}
use Rattle.bit_grammar.specs.Definition.{kind, valued, operand, operands, definition}
use Rattle.bit_grammar.specs.Record.{value_count, unabbreviated, scalar, values_of, abbreviated}
use Rattle.bit_grammar.specs.Forest.{empty, a_block, a_record}
use Rattle.bit_grammar.specs.Blocks.{block_id, new_width, block_head, end_of_block, define, by_definition, entry, describe, record_after, nested, item_after, item, block, top_block}
use Rattle.bit_grammar.specs.Input.{version, offset, wrapper, any_bits, wrapper_and_gap, inner_magic, top_blocks, stream, wrapped, input, outer_wrapper}
use Rattle.bit_grammar.specs.Normal.{normal, normal_form}
use Rattle.bit_grammar.proofs.Rows.Hex.{hex}
use Rattle.bit_grammar.proofs.Rows.Worked.{usual, blocks, Accepted}
use Rattle.bit_grammar.proofs.Readings.Readers.{reading_input}

abbrev magic : List ℕ
magic = hex "4243C0DE"

-- a BLOCKINFO block that gives block 8 the definition [Literal 1, Fixed 7]
abbrev info : List ℕ
info = hex "01080000 02000000 0701A218 20070000"

-- a block 8 that uses it for the value 100
abbrev use_of_info : List ℕ
use_of_info = hex "210C0000 01000000 24030000"

record Tables : Type 0 where
  from_info : Accepted usual (magic ++ info ++ use_of_info) (a_block 0 (a_record 1 (8 ∷ []) empty) (a_block 8 (a_record 1 (100 ∷ []) empty) empty)) (hex "4243C0DE 01080000 01000000 07010200 21080000 01000000 07013900")
  -- id 4 is from BLOCKINFO, and id 5 is the block's own [Literal 2, Fixed 4]
  -- refuses: own definitions numbered before those of BLOCKINFO
  own_behind : Accepted usual (magic ++ info ++ hex "210C0000 02000000 12058490 DC040000") (a_block 0 (a_record 1 (8 ∷ []) empty) (a_block 8 (a_record 1 (100 ∷ []) (a_record 2 (9 ∷ []) empty)) empty)) (hex "4243C0DE 01080000 01000000 07010200 21080000 02000000 0701392C 04090000")
  -- one id described twice: its definitions add up, and id 5 is the second
  described_twice : Accepted usual (hex "4243C0DE 01080000 03000000 0701A218 20E72040 14058400 210C0000 01000000 4D000000") (a_block 0 (a_record 1 (8 ∷ []) (a_record 1 (8 ∷ []) empty)) (a_block 8 (a_record 2 (9 ∷ []) empty) empty)) (hex "4243C0DE 01080000 02000000 07017210 20000000 21080000 01000000 0B410200")

tables : Tables
unfolding fixed vbr char6 align32 byte kind valued operand operands definition value_count unabbreviated scalar values_of abbreviated block_id new_width block_head end_of_block define by_definition entry describe record_after nested item_after item block top_block version offset wrapper any_bits wrapper_and_gap inner_magic top_blocks stream wrapped input outer_wrapper reading_input normal normal_form
tables = record { from_info = (refl, refl); own_behind = (refl, refl); described_twice = (refl, refl) }

-- a block 8 with a BLOCKINFO block that describes block 8, and another block 8 in it, which uses the definition
abbrev block_after_info : List ℕ
block_after_info = hex "4243C0DE 210C0000 08000000 01100000 02000000 0701A218 20070000 41180000 01000000 24030000 00000000"

record Scopes : Type 0 where
  -- the second BLOCKINFO block makes an empty table
  -- refuses: a second BLOCKINFO block that appends
  replaced : blocks usual (magic ++ info ++ use_of_info ++ hex "01080000 01000000 00000000" ++ use_of_info) ≡ Err (at UndefinedAbbrev 416)
  -- refuses: a BLOCKINFO block that changes a block already open
  already_open : blocks usual (hex "4243C0DE 210C0000 05000000 01100000 02000000 0701A218 20070000 24030000") ≡ Err (at UndefinedAbbrev 224)
  -- refuses: a BLOCKINFO block that does not change a block entered later
  entered_later : Accepted usual block_after_info (a_block 8 (a_block 0 (a_record 1 (8 ∷ []) empty) (a_block 8 (a_record 1 (100 ∷ []) empty) empty)) empty) (hex "4243C0DE 21080000 07000000 01080000 01000000 07010200 21080000 01000000 07013900 00000000")
  -- block 8 has the definition [Literal 1, Fixed 7] of its own, and block 9 in it uses id 4
  -- refuses: a block's own definition that reaches its sub-blocks
  not_in_sub_blocks : blocks usual (hex "4243C0DE 210C0000 05000000 1203E424 61000000 01000000 24030000 00000000") ≡ Err (at UndefinedAbbrev 192)

scopes : Scopes
unfolding fixed vbr char6 align32 byte kind valued operand operands definition value_count unabbreviated scalar values_of abbreviated block_id new_width block_head end_of_block define by_definition entry describe record_after nested item_after item block top_block version offset wrapper any_bits wrapper_and_gap inner_magic top_blocks stream wrapped input outer_wrapper reading_input normal normal_form
scopes = record { replaced = refl; already_open = refl; entered_later = (refl, refl); not_in_sub_blocks = refl }

-- a BLOCKINFO block with a body of one word
abbrev info_with : List ℕ → List ℕ
info_with body = hex "4243C0DE 01080000 01000000" ++ body

record InfoFaults : Type 0 where
  -- a record of code 2
  name_of_no_block : blocks usual (info_with (hex "0B000000")) ≡ Err (at NoBlockSet 96)
  definition_for_no_block : blocks usual (info_with (hex "02000000")) ≡ Err (at NoBlockSet 96)
  -- SETBID with no value
  no_id : blocks usual (info_with (hex "07000000")) ≡ Err (at BadSetBid 96)
  block_in_info : blocks usual (info_with (hex "01000000")) ≡ Err (at NestedInBlockInfo 96)

info_faults : InfoFaults
unfolding fixed vbr char6 align32 byte kind valued operand operands definition value_count unabbreviated scalar values_of abbreviated block_id new_width block_head end_of_block define by_definition entry describe record_after nested item_after item block top_block version offset wrapper any_bits wrapper_and_gap inner_magic top_blocks stream wrapped input outer_wrapper reading_input
info_faults = record { name_of_no_block = refl; definition_for_no_block = refl; no_id = refl; block_in_info = refl }
