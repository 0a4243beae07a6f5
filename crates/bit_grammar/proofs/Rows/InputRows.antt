-- Worked inputs: magics, records, paddings, lengths, widths and block ids.
use Rattle.std.proofs.Common.{ℕ, ◌≡◌, List, [], ◌∷◌, Ok, Err, refl}
use Rattle.bit_grammar.specs.declared.reason.Reason.TheVariants.{AbbrevWidth, BlockId, BlockLength, DirtyPadding, TooDeep, TopLevel, Truncated, UndefinedAbbrev, ValueTooWide}
use Rattle.bit_grammar.specs.Setting.{keep}
use Rattle.bit_grammar.specs.Grammar.{at}
use Rattle.bit_grammar.specs.Fields.{fixed, vbr, char6, align32, byte}
use Rattle.bit_grammar.specs.Definition.{kind, valued, operand, operands, definition}
use Rattle.bit_grammar.specs.Record.{value_count, unabbreviated, scalar, values_of, abbreviated}
use Rattle.bit_grammar.specs.Forest.{empty, a_block, a_record}
use Rattle.bit_grammar.specs.Marks.{no_marks, marked_block}
use Rattle.bit_grammar.specs.Blocks.{block_id, new_width, block_head, end_of_block, define, by_definition, entry, describe, record_after, nested, item_after, item, block, top_block}
use Rattle.bit_grammar.specs.Input.{version, offset, wrapper, any_bits, wrapper_and_gap, inner_magic, top_blocks, stream, wrapped, input, outer_wrapper}
use Rattle.bit_grammar.specs.Normal.{normal, normal_form}
use Rattle.bit_grammar.proofs.Rows.Hex.{hex}
use Rattle.bit_grammar.proofs.Rows.Worked.{usual, with_depth, blocks, tree, marks, Accepted, IsNormal}
use Rattle.bit_grammar.proofs.Readings.Readers.{reading_input}

record Magics : Type 0 where
  nothing : blocks usual [] ≡ Err (at Truncated 0)
  three_bytes : blocks usual (hex "4243C0") ≡ Err (at Truncated 0)
  magic_alone : IsNormal usual (hex "4243C0DE") empty
  empty_block : IsNormal usual (hex "4243C0DE 21080000 01000000 00000000") (a_block 8 empty empty)
  -- any magic is kept
  another_magic : Accepted usual (hex "44494147 210C0000 01000000 0B021E00") (a_block 8 (a_record 1 (28 ∷ []) empty) empty) (hex "44494147 21080000 01000000 07010700")

magics : Magics
unfolding fixed vbr char6 align32 byte kind valued operand operands definition value_count unabbreviated scalar values_of abbreviated block_id new_width block_head end_of_block define by_definition entry describe record_after nested item_after item block top_block version offset wrapper any_bits wrapper_and_gap inner_magic top_blocks stream wrapped input outer_wrapper reading_input normal normal_form
magics = record { nothing = refl; three_bytes = refl; magic_alone = (refl, refl); empty_block = (refl, refl); another_magic = (refl, refl) }

record Records : Type 0 where
  -- id, code, number of values and one value, in six bits each except the id
  one_value : IsNormal usual (hex "4243C0DE 21080000 01000000 07810700") (a_block 8 (a_record 1 (30 ∷ []) empty) empty)
  -- ids of three bits, and the value in one chunk more than it needs
  -- refuses: a normal form with the width or the chunks of its input
  long_value : Accepted usual (hex "4243C0DE 210C0000 01000000 0B021F00") (a_block 8 (a_record 1 (30 ∷ []) empty) empty) (hex "4243C0DE 21080000 01000000 07810700")
  -- one, two and thirteen chunks
  three_lengths : IsNormal usual (hex "4243C0DE 21080000 04000000 07C30706 FFFFFFFF FFFFFFFF FF0F0000") (a_block 8 (a_record 1 (31 ∷ 32 ∷ 18446744073709551615 ∷ []) empty) empty)
  -- refuses: payload past 64 bits dropped; a fault at the bit where it was noticed, which is in the last chunk
  payload_past_64_bits : blocks usual (hex "4243C0DE 21080000 04000000 07C30706 FFFFFFFF FFFFFFFF FF1F0000") ≡ Err (at ValueTooWide 128)
  -- refuses: a fourteenth chunk taken
  fourteenth_chunk : blocks usual (hex "4243C0DE 21080000 04000000 07C30706 FFFFFFFF FFFFFFFF FF2F0000") ≡ Err (at ValueTooWide 128)
  no_definition_4 : blocks usual (hex "4243C0DE 210C0000 01000000 04000000") ≡ Err (at UndefinedAbbrev 96)

records : Records
unfolding fixed vbr char6 align32 byte kind valued operand operands definition value_count unabbreviated scalar values_of abbreviated block_id new_width block_head end_of_block define by_definition entry describe record_after nested item_after item block top_block version offset wrapper any_bits wrapper_and_gap inner_magic top_blocks stream wrapped input outer_wrapper reading_input normal normal_form
records = record { one_value = (refl, refl); long_value = (refl, refl); three_lengths = (refl, refl); payload_past_64_bits = refl; fourteenth_chunk = refl; no_definition_4 = refl }

record Ends : Type 0 where
  -- refuses: padding that is not read
  one_in_padding : blocks usual (hex "4243C0DE 21080000 01000000 00000080") ≡ Err (at DirtyPadding 127)
  -- refuses: a length that is ignored; a length trusted as a jump; a fault at the bit where it was noticed, the block's end
  length_too_large : blocks usual (hex "4243C0DE 21080000 02000000 00000000") ≡ Err (at BlockLength 64)
  length_too_small : blocks usual (hex "4243C0DE 21080000 00000000 00000000") ≡ Err (at BlockLength 64)
  newlines_behind : blocks usual (hex "4243C0DE 21080000 01000000 00000000 0A0A0A0A") ≡ Err (at TopLevel 128)

ends : Ends
unfolding fixed vbr char6 align32 byte kind valued operand operands definition value_count unabbreviated scalar values_of abbreviated block_id new_width block_head end_of_block define by_definition entry describe record_after nested item_after item block top_block version offset wrapper any_bits wrapper_and_gap inner_magic top_blocks stream wrapped input outer_wrapper reading_input
ends = record { one_in_padding = refl; length_too_large = refl; length_too_small = refl; newlines_behind = refl }

-- a block of width 1 that contains one of width 2
abbrev narrow : List ℕ
narrow = hex "4243C0DE 21040000 04000000 13040000 01000000 00000000 00000000"

record Widths : Type 0 where
  -- refuses: the old width kept in the normal form
  width_1 : Accepted usual narrow (a_block 8 (a_block 9 empty empty) empty) (hex "4243C0DE 21080000 04000000 25080000 01000000 00000000 00000000")
  places_of_width_1 : marks usual narrow ≡ Ok (marked_block (record { id = 8; width = 1; first = 32; body = 96; after = 224 }) (marked_block (record { id = 9; width = 2; first = 96; body = 160; after = 192 }) no_marks no_marks) no_marks)
  width_1_too_deep : blocks (with_depth 1) narrow ≡ Err (at TooDeep 96)
  -- refuses: the old width kept in the normal form
  width_32 : Accepted usual (hex "4243C0DE 21200100 01000000 00000000") (a_block 8 empty empty) (hex "4243C0DE 21080000 01000000 00000000")
  width_0 : blocks usual (hex "4243C0DE 21000000") ≡ Err (at AbbrevWidth 42)
  -- the bits up to the width are enough
  width_0_in_six_bytes : blocks usual (hex "4243C0DE 2100") ≡ Err (at AbbrevWidth 42)
  width_33 : blocks usual (hex "4243C0DE 21240100") ≡ Err (at AbbrevWidth 42)

widths : Widths
unfolding fixed vbr char6 align32 byte kind valued operand operands definition value_count unabbreviated scalar values_of abbreviated block_id new_width block_head end_of_block define by_definition entry describe record_after nested item_after item block top_block version offset wrapper any_bits wrapper_and_gap inner_magic top_blocks stream wrapped input outer_wrapper reading_input normal normal_form
widths = record { width_1 = (refl, refl); places_of_width_1 = refl; width_1_too_deep = refl; width_32 = (refl, refl); width_0 = refl; width_0_in_six_bytes = refl; width_33 = refl }

record BlockIds : Type 0 where
  largest : IsNormal usual (hex "4243C0DE FDFFFFFF 3F080000 01000000 00000000") (a_block 4294967295 empty empty)
  past_32_bits : blocks usual (hex "4243C0DE 01020202 42080000") ≡ Err (at BlockId 34)

block_ids : BlockIds
unfolding fixed vbr char6 align32 byte kind valued operand operands definition value_count unabbreviated scalar values_of abbreviated block_id new_width block_head end_of_block define by_definition entry describe record_after nested item_after item block top_block version offset wrapper any_bits wrapper_and_gap inner_magic top_blocks stream wrapped input outer_wrapper reading_input normal normal_form
block_ids = record { largest = (refl, refl); past_32_bits = refl }

record Same : Type 0 where
  -- two spellings of one tree
  widths_and_chunks : tree keep usual (hex "4243C0DE 21080000 01000000 07810700") ≡ tree keep usual (hex "4243C0DE 210C0000 01000000 0B021F00")
  -- a blob, and an array of the same bytes
  blob_and_array : tree keep usual (hex "4243C0DE 210C0000 04000000 12039405 61626364 65000000 00000000") ≡ tree keep usual (hex "4243C0DE 210C0000 03000000 1A034C10 8B30B131 B2320000")
  -- the magic is in the tree
  one_magic : tree keep usual (hex "4243C0DE") ≡ Ok (record { magic = 0xDEC04342; blocks = empty })
  other_magic : tree keep usual (hex "44494147") ≡ Ok (record { magic = 0x47414944; blocks = empty })

same : Same
unfolding fixed vbr char6 align32 byte kind valued operand operands definition value_count unabbreviated scalar values_of abbreviated block_id new_width block_head end_of_block define by_definition entry describe record_after nested item_after item block top_block version offset wrapper any_bits wrapper_and_gap inner_magic top_blocks stream wrapped input outer_wrapper reading_input normal normal_form
same = record { widths_and_chunks = refl; blob_and_array = refl; one_magic = refl; other_magic = refl }
