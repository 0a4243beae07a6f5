-- Worked inputs in a wrapper.
use Rattle.std.proofs.Common.{ℕ, ◌≡◌, List, [], ◌++◌, take, replicate, Some, Ok, Err, refl}
use Rattle.bit_grammar.specs.declared.reason.Reason.TheVariants.{TooLong, TopLevel, Truncated, WrapperNested, WrapperOffset, WrapperSize, WrapperVersion}
use Rattle.bit_grammar.specs.Grammar.{at}
use Rattle.bit_grammar.specs.Fields.{fixed, vbr, char6, align32, byte}
use Rattle.bit_grammar.specs.Definition.{kind, valued, operand, operands, definition}
use Rattle.bit_grammar.specs.Record.{value_count, unabbreviated, scalar, values_of, abbreviated}
use Rattle.bit_grammar.specs.Forest.{empty, a_block}
use Rattle.bit_grammar.specs.Marks.{no_marks, marked_block}
use Rattle.bit_grammar.specs.Blocks.{block_id, new_width, block_head, end_of_block, define, by_definition, entry, describe, record_after, nested, item_after, item, block, top_block}
use Rattle.bit_grammar.specs.Input.{version, offset, wrapper, any_bits, wrapper_and_gap, inner_magic, top_blocks, stream, wrapped, input, outer_wrapper}
use Rattle.bit_grammar.specs.Normal.{normal, normal_form}
use Rattle.bit_grammar.proofs.Rows.Hex.{hex, times}
use Rattle.bit_grammar.proofs.Rows.Worked.{usual, with_bytes, blocks, Accepted}
use Rattle.bit_grammar.proofs.Readings.Readers.{reading_input}

-- a stream of 16 bytes: an empty block
abbrev bare : List ℕ
bare = hex "4243C0DE 21080000 01000000 00000000"

-- a wrapper with Offset 20 and Size 16
abbrev header : List ℕ
header = hex "DEC0170B 00000000 14000000 10000000 07000001"

-- the bytes after a stream
abbrev tail : List ℕ
tail = times 12 (hex "00")

record WrappedInputs : Type 0 where
  -- as Darwin's tools pad it
  with_a_tail : Accepted usual (header ++ bare ++ tail) (a_block 8 empty empty) bare
  size_20 : blocks usual (hex "DEC0170B 00000000 14000000 14000000 07000001" ++ bare) ≡ Err (at WrapperSize 96)
  size_20_with_a_tail : blocks usual (hex "DEC0170B 00000000 14000000 14000000 07000001" ++ bare ++ tail) ≡ Err (at TopLevel 288)
  wrapper_inside : blocks usual (header ++ hex "DEC0170B") ≡ Err (at WrapperNested 160)
  version_1 : blocks usual (hex "DEC0170B 01000000 14000000 10000000 07000001" ++ bare) ≡ Err (at WrapperVersion 32)
  offset_16 : blocks usual (hex "DEC0170B 00000000 10000000 10000000 07000001" ++ bare) ≡ Err (at WrapperOffset 64)
  offset_22 : blocks usual (hex "DEC0170B 00000000 16000000 10000000 07000001" ++ bare) ≡ Err (at WrapperOffset 64)

wrapped_inputs : WrappedInputs
unfolding fixed vbr char6 align32 byte kind valued operand operands definition value_count unabbreviated scalar values_of abbreviated block_id new_width block_head end_of_block define by_definition entry describe record_after nested item_after item block top_block version offset wrapper any_bits wrapper_and_gap inner_magic top_blocks stream wrapped input outer_wrapper reading_input normal normal_form
wrapped_inputs = record { with_a_tail = (refl, refl); size_20 = refl; size_20_with_a_tail = refl; wrapper_inside = refl; version_1 = refl; offset_16 = refl; offset_22 = refl }

-- a wrapper whose Size ends in a block's width
abbrev short : List ℕ
short = hex "DEC0170B 00000000 14000000 06000000 07000001" ++ bare ++ tail

-- a wrapper with four bytes between its header and the stream
abbrev with_a_gap : List ℕ
with_a_gap = hex "DEC0170B 00000000 18000000 10000000 07000001 FFFFFFFF" ++ bare

record Parts : Type 0 where
  size_6 : blocks usual short ≡ Err (at Truncated 206)
  -- refuses: a wrapper's Truncated turned into TooLong though its stream is complete within the limit
  size_6_within_limit : blocks (with_bytes 47) short ≡ Err (at Truncated 206)
  size_6_past_limit : blocks (with_bytes 25) short ≡ Err (at TooLong 200)
  gap : Accepted usual with_a_gap (a_block 8 empty empty) bare
  places_after_gap : reading_input usual with_a_gap ≡ Ok (record { head = record { magic = 0xDEC04342; wrapper = Some (record { offset = 24; size = 16; cpu = 0x01000007 }) }; blocks = marked_block (record { id = 8; width = 2; first = 224; body = 288; after = 320 }) no_marks no_marks; after = 320 })
  cut_in_the_gap : blocks usual (take 22 with_a_gap) ≡ Err (at Truncated 160)
  cut_before_size : blocks usual (take 12 with_a_gap) ≡ Err (at Truncated 96)

parts : Parts
unfolding fixed vbr char6 align32 byte kind valued operand operands definition value_count unabbreviated scalar values_of abbreviated block_id new_width block_head end_of_block define by_definition entry describe record_after nested item_after item block top_block version offset wrapper any_bits wrapper_and_gap inner_magic top_blocks stream wrapped input outer_wrapper reading_input normal normal_form
parts = record { size_6 = refl; size_6_within_limit = refl; size_6_past_limit = refl; gap = (refl, refl); places_after_gap = refl; cut_in_the_gap = refl; cut_before_size = refl }

record Lies : Type 0 where
  -- a Size and an Offset of nearly 2 ^ 32
  large_size : blocks usual (hex "DEC0170B 00000000 14000000 FFFFFFFF 07000001" ++ bare) ≡ Err (at WrapperSize 96)
  large_size_with_a_tail : blocks usual (hex "DEC0170B 00000000 14000000 FFFFFFFF 07000001" ++ bare ++ tail) ≡ Err (at TopLevel 288)
  large_offset : blocks usual (hex "DEC0170B 00000000 FCFFFFFF 10000000 07000001" ++ bare) ≡ Err (at Truncated 160)

lies : Lies
unfolding fixed vbr char6 align32 byte kind valued operand operands definition value_count unabbreviated scalar values_of abbreviated block_id new_width block_head end_of_block define by_definition entry describe record_after nested item_after item block top_block version offset wrapper any_bits wrapper_and_gap inner_magic top_blocks stream wrapped input outer_wrapper reading_input
lies = record { large_size = refl; large_size_with_a_tail = refl; large_offset = refl }

-- the first 2,000 bytes of these and of zeros after them
abbrev and_zeros : List ℕ → List ℕ
and_zeros bytes = take 2000 (bytes ++ replicate 2000 0)

record LongInputs : Type 0 where
  accepted_front : blocks (with_bytes 1000) (and_zeros (header ++ bare)) ≡ Err (at TooLong 8000)
  -- refuses: the limit on bytes judged before an earlier reason
  size_2000 : blocks (with_bytes 1000) (and_zeros (hex "DEC0170B 00000000 14000000 D0070000 07000001" ++ bare)) ≡ Err (at TopLevel 288)
  large_offset : blocks (with_bytes 1000) (and_zeros (hex "DEC0170B 00000000 FCFFFFFF 10000000 07000001" ++ bare)) ≡ Err (at TooLong 8000)
  zeros_only : blocks (with_bytes 1000) (and_zeros []) ≡ Err (at TopLevel 32)
  cut_header : blocks (with_bytes 10) (and_zeros (hex "DEC0170B")) ≡ Err (at TooLong 80)

long_inputs : LongInputs
unfolding fixed vbr char6 align32 byte kind valued operand operands definition value_count unabbreviated scalar values_of abbreviated block_id new_width block_head end_of_block define by_definition entry describe record_after nested item_after item block top_block version offset wrapper any_bits wrapper_and_gap inner_magic top_blocks stream wrapped input outer_wrapper reading_input
long_inputs = record { accepted_front = refl; size_2000 = refl; large_offset = refl; zeros_only = refl; cut_header = refl }
