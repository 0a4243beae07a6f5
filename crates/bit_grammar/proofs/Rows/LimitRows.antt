-- Worked inputs at the limits on bytes, depth and values.
use Rattle.std.proofs.Common.{ℕ, ◌*◌, ◌≡◌, List, [], ◌∷◌, ◌++◌, length, take, Ok, Err, refl}
use Rattle.bit_grammar.specs.declared.reason.Reason.TheVariants.{TooDeep, TooLong, TooManyValues, TopLevel, Truncated}
use Rattle.bit_grammar.specs.Setting.{keep}
use Rattle.bit_grammar.specs.Grammar.{at}
use Rattle.bit_grammar.specs.Fields.{fixed, vbr, char6, align32, byte}
use Rattle.bit_grammar.specs.Definition.{kind, valued, operand, operands, definition}
use Rattle.bit_grammar.specs.Record.{value_count, unabbreviated, scalar, values_of, abbreviated}
use Rattle.bit_grammar.specs.Forest.{Forest, empty, a_block, a_record}
use Rattle.bit_grammar.specs.Blocks.{block_id, new_width, block_head, end_of_block, define, by_definition, entry, describe, record_after, nested, item_after, item, block, top_block}
use Rattle.bit_grammar.specs.Input.{version, offset, wrapper, any_bits, wrapper_and_gap, inner_magic, top_blocks, stream, wrapped, input, outer_wrapper}
use Rattle.bit_grammar.specs.Normal.{normal, normal_form}
use Rattle.bit_grammar.proofs.Rows.Hex.{hex}
use Rattle.bit_grammar.proofs.Rows.Worked.{usual, with_bytes, with_depth, with_values, blocks, rewritten, Accepted}
use Rattle.bit_grammar.proofs.Readings.Readers.{made_by, reading_input}

-- a definition of eight literals that is used twice
abbrev literals : List ℕ
literals = hex "4243C0DE 210C0000 03000000 42030614 38906041 83072400"

-- a record with seven values, and the items after it
abbrev seven_values : Forest → Forest
seven_values others = a_record 1 (1 ∷ 2 ∷ 3 ∷ 4 ∷ 5 ∷ 6 ∷ 7 ∷ []) others

-- a block 8 with a record of code 1 and the value 30
abbrev one_value : List ℕ
one_value = hex "4243C0DE 21080000 01000000 07810700"

-- an empty block
abbrev empty_block : List ℕ
empty_block = hex "4243C0DE 21080000 01000000 00000000"

-- a definition [Literal 1, Array, Char6] that is used for three values
abbrev characters : List ℕ
characters = hex "4243C0DE 210C0000 02000000 1A030C39 00FF0C00"

-- a BLOCKINFO block with one value, and a block 8 cut off in a record by [Literal 1, Fixed 7]
abbrev cut_record : List ℕ
cut_record = hex "4243C0DE 01080000 02000000 0701A218 20070000 210C0000 01000000 24"

record Values : Type 0 where
  fourteen : Accepted (with_values 14) literals (a_block 8 (seven_values (seven_values empty)) empty) (hex "4243C0DE 21080000 04000000 0747200C 44611C07 47200C44 611C0000")
  thirteen : blocks (with_values 13) literals ≡ Err (at TooManyValues 179)
  -- of an unabbreviated record, at the number of values
  none_of_one : blocks (with_values 0) one_value ≡ Err (at TooManyValues 104)
  -- of an array, at its length
  two_of_three : blocks (with_values 2) characters ≡ Err (at TooManyValues 124)
  -- of the other operands, at the record's id
  -- refuses: values judged after the fields of the record, of which the first is cut off
  one_of_two : blocks (with_values 1) cut_record ≡ Err (at TooManyValues 224)
  two_of_two : blocks (with_values 2) cut_record ≡ Err (at Truncated 227)
  -- refuses: the values of an array judged after its elements, of which the second is cut off
  two_of_a_cut_array : blocks (with_values 2) (take 17 characters) ≡ Err (at TooManyValues 124)
  three_of_a_cut_array : blocks (with_values 3) (take 17 characters) ≡ Err (at Truncated 136)

values : Values
unfolding fixed vbr char6 align32 byte kind valued operand operands definition value_count unabbreviated scalar values_of abbreviated block_id new_width block_head end_of_block define by_definition entry describe record_after nested item_after item block top_block version offset wrapper any_bits wrapper_and_gap inner_magic top_blocks stream wrapped input outer_wrapper reading_input normal normal_form
values = record { fourteen = (refl, refl); thirteen = refl; none_of_one = refl; two_of_three = refl; one_of_two = refl; two_of_two = refl; two_of_a_cut_array = refl; three_of_a_cut_array = refl }

record BytesAndDepth : Type 0 where
  -- an input is read under a limit that its normal form passes
  form_too_long : Accepted (with_bytes 24) literals (a_block 8 (seven_values (seven_values empty)) empty) (hex "4243C0DE 21080000 04000000 0747200C 44611C07 47200C44 611C0000")
  -- in bits: 28 bytes, and 16
  length_of_form : made_by length (rewritten keep usual literals) ≡ Ok (8 * 28)
  length_of_one_value : made_by length (rewritten keep usual one_value) ≡ Ok (8 * 16)
  bytes_16 : blocks (with_bytes 16) empty_block ≡ Ok (a_block 8 empty empty)
  bytes_15 : blocks (with_bytes 15) empty_block ≡ Err (at TooLong 120)
  bytes_before_newlines : blocks (with_bytes 16) (empty_block ++ hex "0A0A0A0A") ≡ Err (at TooLong 128)
  -- refuses: the limit on bytes judged before an earlier reason
  first_newline_seen : blocks (with_bytes 17) (empty_block ++ hex "0A0A0A0A") ≡ Err (at TopLevel 128)
  no_depth : blocks (with_depth 0) one_value ≡ Err (at TooDeep 32)

bytes_and_depth : BytesAndDepth
unfolding fixed vbr char6 align32 byte kind valued operand operands definition value_count unabbreviated scalar values_of abbreviated block_id new_width block_head end_of_block define by_definition entry describe record_after nested item_after item block top_block version offset wrapper any_bits wrapper_and_gap inner_magic top_blocks stream wrapped input outer_wrapper reading_input normal normal_form
bytes_and_depth = record { form_too_long = (refl, refl); length_of_form = refl; length_of_one_value = refl; bytes_16 = refl; bytes_15 = refl; bytes_before_newlines = refl; first_newline_seen = refl; no_depth = refl }
