-- Worked definitions of abbreviations, and records by them.
use Rattle.std.proofs.Common.{ℕ, ◌≡◌, List, [], ◌∷◌, ◌++◌, drop, Result, Ok, Err, refl}
use Rattle.bit_grammar.specs.declared.op.Op.{Op}
use Rattle.bit_grammar.specs.declared.op.Op.TheVariants.{Literal, Fixed, Vbr, Array, Char6, Blob}
use Rattle.bit_grammar.specs.declared.shapes.Shapes.TheVariants.{AtDefinition}
use Rattle.bit_grammar.specs.declared.reason.Reason.TheVariants.{AbbrevEmpty, AbbrevEncoding, AbbrevShape, DirtyPadding, FieldWidth, TooManyValues}
use Rattle.bit_grammar.specs.Bits.{bits_of_bytes}
use Rattle.bit_grammar.specs.Grammar.{Fault, at, reading}
use Rattle.bit_grammar.specs.Fields.{fixed, vbr, char6, align32, byte}
use Rattle.bit_grammar.specs.Definition.{kind, valued, operand, operands, definition}
use Rattle.bit_grammar.specs.Record.{value_count, unabbreviated, scalar, values_of, abbreviated}
use Rattle.bit_grammar.specs.Forest.{empty, a_block, a_record}
use Rattle.bit_grammar.specs.Blocks.{block_id, new_width, block_head, end_of_block, define, by_definition, entry, describe, record_after, nested, item_after, item, block, top_block}
use Rattle.bit_grammar.specs.Input.{version, offset, wrapper, any_bits, wrapper_and_gap, inner_magic, top_blocks, stream, wrapped, input, outer_wrapper}
use Rattle.bit_grammar.specs.Normal.{normal, normal_form}
use Rattle.bit_grammar.proofs.Rows.Hex.{hex}
use Rattle.bit_grammar.proofs.Rows.Worked.{usual, with_values, blocks, Accepted}
use Rattle.bit_grammar.proofs.Readings.Readers.{made_by, reading_input}

-- a block 8 with ids of three bits and a body of this many words: these bytes
abbrev in_block : (words : ℕ) → (body : List ℕ) → List ℕ
in_block words body = hex "4243C0DE 210C0000" ++ words ∷ 0 ∷ 0 ∷ 0 ∷ body

record Faults : Type 0 where
  no_operands : blocks usual (in_block 1 (hex "02000000")) ≡ Err (at AbbrevEmpty 99)
  encoding_0 : blocks usual (in_block 1 (hex "0A000000")) ≡ Err (at AbbrevEncoding 105)
  fixed_33 : blocks usual (in_block 1 (hex "0A120500")) ≡ Err (at FieldWidth 108)
  vbr_1 : blocks usual (in_block 1 (hex "0A140000")) ≡ Err (at FieldWidth 108)
  array_first : blocks usual (in_block 1 (hex "12060000")) ≡ Err (at AbbrevShape 104)
  array_second_of_four : blocks usual (in_block 1 (hex "22030C00")) ≡ Err (at AbbrevShape 113)

faults : Faults
unfolding fixed vbr char6 align32 byte kind valued operand operands definition value_count unabbreviated scalar values_of abbreviated block_id new_width block_head end_of_block define by_definition entry describe record_after nested item_after item block top_block version offset wrapper any_bits wrapper_and_gap inner_magic top_blocks stream wrapped input outer_wrapper reading_input
faults = record { no_operands = refl; encoding_0 = refl; fixed_33 = refl; vbr_1 = refl; array_first = refl; array_second_of_four = refl }

-- the operands of the first definition in the block, and the bit after them
abbrev operands_in : List ℕ → Result (List Op × ℕ) Fault
operands_in body = made_by (λ x. (x.0, x.1)) (reading (definition AtDefinition) 99 (drop 99 (bits_of_bytes (in_block 1 body))))

record OperandLists : Type 0 where
  characters : operands_in (hex "1A030C39 00FF0C00") ≡ Ok (Literal 1 ∷ Array ∷ Char6 ∷ [], 121)
  literal_and_fixed : operands_in (hex "12058490") ≡ Ok (Literal 2 ∷ Fixed 4 ∷ [], 122)
  blob : operands_in (hex "12039400") ≡ Ok (Literal 1 ∷ Blob ∷ [], 117)
  array_of_bytes : operands_in (hex "1A034C10") ≡ Ok (Literal 1 ∷ Array ∷ Fixed 8 ∷ [], 126)
  literals : operands_in (hex "42030614 38906041 8307") ≡ Ok (Literal 1 ∷ Literal 1 ∷ Literal 2 ∷ Literal 3 ∷ Literal 4 ∷ Literal 5 ∷ Literal 6 ∷ Literal 7 ∷ [], 176)
  fixed_0 : operands_in (hex "0A020000") ≡ Ok (Fixed 0 ∷ [], 113)
  vbr_0 : operands_in (hex "0A040000") ≡ Ok (Vbr 0 ∷ [], 113)
  literal_vbr_0_fixed : operands_in (hex "1A030808 61") ≡ Ok (Literal 1 ∷ Vbr 0 ∷ Fixed 4 ∷ [], 131)
  array_of_fixed_0 : operands_in (hex "1A034C00 07") ≡ Ok (Literal 1 ∷ Array ∷ Fixed 0 ∷ [], 126)

operand_lists : OperandLists
unfolding fixed vbr char6 align32 byte kind valued operand operands definition value_count unabbreviated scalar values_of abbreviated
operand_lists = record { characters = refl; literal_and_fixed = refl; blob = refl; array_of_bytes = refl; literals = refl; fixed_0 = refl; vbr_0 = refl; literal_vbr_0_fixed = refl; array_of_fixed_0 = refl }

record Characters : Type 0 where
  -- "a_Z"
  -- refuses: characters as the numbers 0 to 63
  three : Accepted usual (in_block 2 (hex "1A030C39 00FF0C00")) (a_block 8 (a_record 1 (97 ∷ 95 ∷ 90 ∷ []) empty) empty) (hex "4243C0DE 21080000 02000000 074338FC 822E0000")
  none : Accepted usual (in_block 2 (hex "1A030C09 00000000")) (a_block 8 (a_record 1 [] empty) empty) (hex "4243C0DE 21080000 01000000 07000000")

characters : Characters
unfolding fixed vbr char6 align32 byte kind valued operand operands definition value_count unabbreviated scalar values_of abbreviated block_id new_width block_head end_of_block define by_definition entry describe record_after nested item_after item block top_block version offset wrapper any_bits wrapper_and_gap inner_magic top_blocks stream wrapped input outer_wrapper reading_input normal normal_form
characters = record { three = (refl, refl); none = (refl, refl) }

record Blobs : Type 0 where
  none : blocks usual (in_block 2 (hex "12039400 00000000")) ≡ Ok (a_block 8 (a_record 1 [] empty) empty)
  one_word : blocks usual (in_block 3 (hex "12039404 01020304 00000000")) ≡ Ok (a_block 8 (a_record 1 (1 ∷ 2 ∷ 3 ∷ 4 ∷ []) empty) empty)
  five_bytes : Accepted usual (in_block 4 (hex "12039405 61626364 65000000 00000000")) (a_block 8 (a_record 1 (97 ∷ 98 ∷ 99 ∷ 100 ∷ 101 ∷ []) empty) empty) (hex "4243C0DE 21080000 03000000 07453888 C3389043 39000000")
  -- refuses: padding of a blob that is not read
  one_in_padding : blocks usual (in_block 4 (hex "12039405 61626364 65000200 00000000")) ≡ Err (at DirtyPadding 177)
  array_of_bytes : Accepted usual (in_block 3 (hex "1A034C10 8B30B131 B2320000")) (a_block 8 (a_record 1 (97 ∷ 98 ∷ 99 ∷ 100 ∷ 101 ∷ []) empty) empty) (hex "4243C0DE 21080000 03000000 07453888 C3389043 39000000")

blobs : Blobs
unfolding fixed vbr char6 align32 byte kind valued operand operands definition value_count unabbreviated scalar values_of abbreviated block_id new_width block_head end_of_block define by_definition entry describe record_after nested item_after item block top_block version offset wrapper any_bits wrapper_and_gap inner_magic top_blocks stream wrapped input outer_wrapper reading_input normal normal_form
blobs = record { none = refl; one_word = refl; five_bytes = (refl, refl); one_in_padding = refl; array_of_bytes = (refl, refl) }

record ZeroWidths : Type 0 where
  fixed_0 : Accepted usual (in_block 1 (hex "0A020000")) (a_block 8 empty empty) (hex "4243C0DE 21080000 01000000 00000000")
  vbr_0 : Accepted usual (in_block 1 (hex "0A040000")) (a_block 8 empty empty) (hex "4243C0DE 21080000 01000000 00000000")
  code_in_no_bits : Accepted usual (in_block 1 (hex "0A020800")) (a_block 8 (a_record 0 [] empty) empty) (hex "4243C0DE 21080000 01000000 03000000")
  value_in_no_bits : Accepted usual (in_block 2 (hex "1A030808 61020000")) (a_block 8 (a_record 1 (0 ∷ 9 ∷ []) empty) empty) (hex "4243C0DE 21080000 01000000 07029000")
  elements_in_no_bits : Accepted usual (in_block 2 (hex "1A034C00 07000000")) (a_block 8 (a_record 1 (0 ∷ 0 ∷ 0 ∷ []) empty) empty) (hex "4243C0DE 21080000 02000000 07030000 00000000")
  too_many_elements : blocks (with_values 2) (in_block 2 (hex "1A034C00 07000000")) ≡ Err (at TooManyValues 129)

zero_widths : ZeroWidths
unfolding fixed vbr char6 align32 byte kind valued operand operands definition value_count unabbreviated scalar values_of abbreviated block_id new_width block_head end_of_block define by_definition entry describe record_after nested item_after item block top_block version offset wrapper any_bits wrapper_and_gap inner_magic top_blocks stream wrapped input outer_wrapper reading_input normal normal_form
zero_widths = record { fixed_0 = (refl, refl); vbr_0 = (refl, refl); code_in_no_bits = (refl, refl); value_in_no_bits = (refl, refl); elements_in_no_bits = (refl, refl); too_many_elements = refl }
