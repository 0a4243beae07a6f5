-- Worked definitions whose operands are in no lawful order, under both settings.
use Rattle.std.proofs.Common.{◌≡◌, [], ◌∷◌, Ok, Err, refl}
use Rattle.bit_grammar.specs.declared.shapes.Shapes.TheVariants.{AtUse}
use Rattle.bit_grammar.specs.declared.op.Op.TheVariants.{Literal, Fixed, Array}
use Rattle.bit_grammar.specs.declared.reason.Reason.TheVariants.{AbbrevShape, FieldWidth}
use Rattle.bit_grammar.specs.Grammar.{at}
use Rattle.bit_grammar.specs.Fields.{fixed, vbr, char6, align32, byte}
use Rattle.bit_grammar.specs.Definition.{kind, valued, operand, operands, definition}
use Rattle.bit_grammar.specs.Record.{value_count, unabbreviated, scalar, values_of, abbreviated}
use Rattle.bit_grammar.specs.Forest.{Forest, empty, a_block, a_record}
use Rattle.bit_grammar.specs.Marks.{no_marks, marked_block, marked_definition}
use Rattle.bit_grammar.specs.Blocks.{judged_at, block_id, new_width, block_head, end_of_block, define, by_definition, entry, describe, record_after, nested, item_after, item, block, top_block}
use Rattle.bit_grammar.specs.Input.{version, offset, wrapper, any_bits, wrapper_and_gap, inner_magic, top_blocks, stream, wrapped, input, outer_wrapper}
use Rattle.bit_grammar.specs.Normal.{normal, normal_form}
use Rattle.bit_grammar.proofs.Rows.Hex.{hex}
use Rattle.bit_grammar.proofs.Rows.Worked.{usual, at_use, with_values, marks, blocks, Accepted}
use Rattle.bit_grammar.proofs.Readings.Readers.{reading_input}

abbrev no_records : Forest
no_records = a_block 8 empty empty

-- a BLOCKINFO block that names block 8, and then an empty block 8
abbrev named_only : Forest
named_only = a_block 0 (a_record 1 (8 ∷ []) empty) (a_block 8 empty empty)

-- a block 8 with one record of code 1
abbrev one_record : Forest
one_record = a_block 8 (a_record 1 (100 ∷ []) empty) empty

-- [Literal 1, Array, Fixed 7, Fixed 7] as the first definition of a block 8
record ArrayInTheMiddle : Type 0 where
  unused : blocks usual (hex "4243C0DE 210C0000 02000000 22034C8E 1C000000") ≡ Err (at AbbrevShape 113)
  -- refuses: a shape that is judged at the definition although the limits say at its use
  unused_at_use : Accepted at_use (hex "4243C0DE 210C0000 02000000 22034C8E 1C000000") no_records (hex "4243C0DE 21080000 01000000 00000000")
  -- refuses: a definition that is left out of the events
  marked_at_use : marks at_use (hex "4243C0DE 210C0000 02000000 22034C8E 1C000000") ≡ Ok (marked_block (record { id = 8; width = 3; first = 32; body = 96; after = 160 }) (marked_definition (record { ops = Literal 1 ∷ Array ∷ Fixed 7 ∷ Fixed 7 ∷ []; first = 96; after = 135 }) no_marks) no_marks)
  used : blocks usual (hex "4243C0DE 210C0000 03000000 22034C8E 1C020000 00000000") ≡ Err (at AbbrevShape 113)
  -- refuses: a record by a definition without a shape that is read
  used_at_use : blocks at_use (hex "4243C0DE 210C0000 03000000 22034C8E 1C020000 00000000") ≡ Err (at AbbrevShape 135)
  in_info : blocks usual (hex "4243C0DE 01080000 02000000 07012219 6072E400 210C0000 01000000 00000000") ≡ Err (at AbbrevShape 132)
  in_info_at_use : blocks at_use (hex "4243C0DE 01080000 02000000 07012219 6072E400 210C0000 01000000 00000000") ≡ Ok named_only
  used_from_info_at_use : blocks at_use (hex "4243C0DE 01080000 02000000 07012219 6072E400 210C0000 02000000 04000000 00000000") ≡ Err (at AbbrevShape 224)
  before_another : blocks usual (hex "4243C0DE 210C0000 03000000 22034C8E 1C890172 4A060000") ≡ Err (at AbbrevShape 113)
  -- refuses: a definition without a shape that is left out of the numbering
  before_another_at_use : Accepted at_use (hex "4243C0DE 210C0000 03000000 22034C8E 1C890172 4A060000") one_record (hex "4243C0DE 21080000 01000000 07013900")

array_in_the_middle : ArrayInTheMiddle
unfolding fixed vbr char6 align32 byte kind valued operand operands definition value_count unabbreviated scalar values_of abbreviated block_id new_width block_head end_of_block define by_definition entry describe record_after nested item_after item block top_block version offset wrapper any_bits wrapper_and_gap inner_magic top_blocks stream wrapped input outer_wrapper reading_input normal normal_form
array_in_the_middle = record {
  unused = refl;
  unused_at_use = (refl, refl);
  marked_at_use = refl;
  used = refl;
  used_at_use = refl;
  in_info = refl;
  in_info_at_use = refl;
  used_from_info_at_use = refl;
  before_another = refl;
  before_another_at_use = (refl, refl);
}

-- the same with [Literal 1, Array, Literal 2]
record LiteralElements : Type 0 where
  unused : blocks usual (hex "4243C0DE 210C0000 02000000 1A03AC00 00000000") ≡ Err (at AbbrevShape 117)
  unused_at_use : blocks at_use (hex "4243C0DE 210C0000 02000000 1A03AC00 00000000") ≡ Ok no_records
  used : blocks usual (hex "4243C0DE 210C0000 03000000 1A03AC00 01000000 00000000") ≡ Err (at AbbrevShape 117)
  used_at_use : blocks at_use (hex "4243C0DE 210C0000 03000000 1A03AC00 01000000 00000000") ≡ Err (at AbbrevShape 126)
  in_info : blocks usual (hex "4243C0DE 01080000 02000000 0701E218 60050000 210C0000 01000000 00000000") ≡ Err (at AbbrevShape 136)
  in_info_at_use : blocks at_use (hex "4243C0DE 01080000 02000000 0701E218 60050000 210C0000 01000000 00000000") ≡ Ok named_only
  used_from_info_at_use : blocks at_use (hex "4243C0DE 01080000 02000000 0701E218 60050000 210C0000 02000000 04000000 00000000") ≡ Err (at AbbrevShape 224)
  before_another : blocks usual (hex "4243C0DE 210C0000 03000000 1A03AC80 C4003925 03000000") ≡ Err (at AbbrevShape 117)
  before_another_at_use : blocks at_use (hex "4243C0DE 210C0000 03000000 1A03AC80 C4003925 03000000") ≡ Ok one_record

literal_elements : LiteralElements
unfolding fixed vbr char6 align32 byte kind valued operand operands definition value_count unabbreviated scalar values_of abbreviated block_id new_width block_head end_of_block define by_definition entry describe record_after nested item_after item block top_block version offset wrapper any_bits wrapper_and_gap inner_magic top_blocks stream wrapped input outer_wrapper reading_input
literal_elements = record { unused = refl; unused_at_use = refl; used = refl; used_at_use = refl; in_info = refl; in_info_at_use = refl; used_from_info_at_use = refl; before_another = refl; before_another_at_use = refl }

-- the same with [Literal 1, Blob, Fixed 7]
record BlobsInTheMiddle : Type 0 where
  unused : blocks usual (hex "4243C0DE 210C0000 02000000 1A03540E 00000000") ≡ Err (at AbbrevShape 113)
  unused_at_use : blocks at_use (hex "4243C0DE 210C0000 02000000 1A03540E 00000000") ≡ Ok no_records
  used : blocks usual (hex "4243C0DE 210C0000 03000000 1A03540E 01000000 00000000") ≡ Err (at AbbrevShape 113)
  used_at_use : blocks at_use (hex "4243C0DE 210C0000 03000000 1A03540E 01000000 00000000") ≡ Err (at AbbrevShape 126)
  in_info : blocks usual (hex "4243C0DE 01080000 02000000 0701E218 A0720000 210C0000 01000000 00000000") ≡ Err (at AbbrevShape 132)
  in_info_at_use : blocks at_use (hex "4243C0DE 01080000 02000000 0701E218 A0720000 210C0000 01000000 00000000") ≡ Ok named_only
  used_from_info_at_use : blocks at_use (hex "4243C0DE 01080000 02000000 0701E218 A0720000 210C0000 02000000 04000000 00000000") ≡ Err (at AbbrevShape 224)
  before_another : blocks usual (hex "4243C0DE 210C0000 03000000 1A03548E C4003925 03000000") ≡ Err (at AbbrevShape 113)
  before_another_at_use : blocks at_use (hex "4243C0DE 210C0000 03000000 1A03548E C4003925 03000000") ≡ Ok one_record

blobs_in_the_middle : BlobsInTheMiddle
unfolding fixed vbr char6 align32 byte kind valued operand operands definition value_count unabbreviated scalar values_of abbreviated block_id new_width block_head end_of_block define by_definition entry describe record_after nested item_after item block top_block version offset wrapper any_bits wrapper_and_gap inner_magic top_blocks stream wrapped input outer_wrapper reading_input
blobs_in_the_middle = record { unused = refl; unused_at_use = refl; used = refl; used_at_use = refl; in_info = refl; in_info_at_use = refl; used_from_info_at_use = refl; before_another = refl; before_another_at_use = refl }

-- what is judged before a shape, and after it
record Orders : Type 0 where
  -- [Array, Fixed 33]: the width is judged at the definition under both settings
  width : blocks usual (hex "4243C0DE 210C0000 01000000 12265100") ≡ Err (at AbbrevShape 104)
  width_at_use : blocks at_use (hex "4243C0DE 210C0000 01000000 12265100") ≡ Err (at FieldWidth 112)
  -- a record by [Literal 1, Fixed 7, Array, Fixed 7, Fixed 7], without room for a value
  -- refuses: values judged before the shape
  values_at_use : blocks (judged_at AtUse (with_values 0)) (hex "4243C0DE 210C0000 03000000 2A03E498 1C390400 00000000") ≡ Err (at AbbrevShape 144)
  -- a BLOCKINFO block that describes BLOCKINFO blocks, and another one in which the definition is used where no block is described
  -- refuses: NoBlockSet judged before the shape
  no_block_at_use : blocks at_use (hex "4243C0DE 01080000 02000000 07012019 6072E400 010C0000 02000000 04000000 00000000") ≡ Err (at AbbrevShape 224)

orders : Orders
unfolding fixed vbr char6 align32 byte kind valued operand operands definition value_count unabbreviated scalar values_of abbreviated block_id new_width block_head end_of_block define by_definition entry describe record_after nested item_after item block top_block version offset wrapper any_bits wrapper_and_gap inner_magic top_blocks stream wrapped input outer_wrapper reading_input
orders = record { width = refl; width_at_use = refl; values_at_use = refl; no_block_at_use = refl }
