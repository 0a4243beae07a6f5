-- Worked inputs with deep nesting, or with numbers that are too large for them.
use Rattle.std.proofs.Common.{ℕ, zero, suc, ◌+◌, ◌*◌, ◌/◌, ◌%◌, ◌≡◌, Bool, true, false, List, [], ◌∷◌, ◌++◌, length, take, drop, replicate, Ok, Err, refl}
use Rattle.bit_grammar.specs.declared.reason.Reason.TheVariants.{AbbrevEncoding, TooDeep, TooManyValues, ValueTooWide}
use Rattle.bit_grammar.specs.Bits.{bits_of, number}
use Rattle.bit_grammar.specs.Grammar.{at}
use Rattle.bit_grammar.specs.Fields.{fixed, vbr, char6, align32, byte}
use Rattle.bit_grammar.specs.FormatFields.{shortest}
use Rattle.bit_grammar.specs.Definition.{kind, valued, operand, operands, definition}
use Rattle.bit_grammar.specs.Record.{value_count, unabbreviated, scalar, values_of, abbreviated}
use Rattle.bit_grammar.specs.Forest.{Forest, empty, a_block, a_record}
use Rattle.bit_grammar.specs.Blocks.{block_id, new_width, block_head, end_of_block, define, by_definition, entry, describe, record_after, nested, item_after, item, block, top_block}
use Rattle.bit_grammar.specs.Input.{version, offset, wrapper, any_bits, wrapper_and_gap, inner_magic, top_blocks, stream, wrapped, input, outer_wrapper}
use Rattle.bit_grammar.specs.Normal.{normal, normal_form}
use Rattle.bit_grammar.proofs.Rows.Hex.{hex, times}
use Rattle.bit_grammar.proofs.Rows.Worked.{usual, with_depth, with_values, blocks, IsNormal}
use Rattle.bit_grammar.proofs.Readings.Readers.{reading_input}

-- the beginning of a block 8 of width 2, with any length
abbrev beginning : List ℕ
beginning = hex "21080000 00000000"

-- nested blocks 8 of width 2
abbrev nest : ℕ → List ℕ
nest zero = []
nest (suc inner) = hex "21080000" ++ ((1 + 3 * inner) % 256) ∷ ((1 + 3 * inner) / 256) ∷ 0 ∷ 0 ∷ nest inner ++ hex "00000000"

abbrev nest_tree : ℕ → Forest
nest_tree zero = empty
nest_tree (suc inner) = a_block 8 (nest_tree inner) empty

record Deep : Type 0 where
  beginnings_65 : blocks usual (hex "4243C0DE" ++ times 65 beginning) ≡ Err (at TooDeep 4128)
  beginnings_256 : blocks (with_depth 255) (hex "4243C0DE" ++ times 256 beginning) ≡ Err (at TooDeep 16352)
  bytes_of_nest : length (hex "4243C0DE" ++ nest 255) ≡ 3064
  -- The normal form of this one takes too many steps here: the tests of bit_norm have it.
  nest_255 : blocks (with_depth 255) (hex "4243C0DE" ++ nest 255) ≡ Ok (nest_tree 255)
  nest_64 : IsNormal usual (hex "4243C0DE" ++ nest 64) (nest_tree 64)

deep : Deep
unfolding fixed vbr char6 align32 byte kind valued operand operands definition value_count unabbreviated scalar values_of abbreviated block_id new_width block_head end_of_block define by_definition entry describe record_after nested item_after item block top_block version offset wrapper any_bits wrapper_and_gap inner_magic top_blocks stream wrapped input outer_wrapper reading_input normal normal_form
deep = record { beginnings_65 = refl; beginnings_256 = refl; bytes_of_nest = refl; nest_255 = refl; nest_64 = (refl, refl) }

record Claims : Type 0 where
  -- 2 ^ 64 - 1 values
  -- refuses: values judged after the fields of the record, which are not there
  values : blocks usual (hex "4243C0DE 21080000 03000000 07FFFFFF FFFFFFFF FFFF0F00") ≡ Err (at TooManyValues 104)
  -- a number of operands whose sixteenth chunk has a continuation bit of 1
  operands_in_17_chunks : blocks usual (hex "4243C0DE 210C0000 03000000 FAFFFFFF FFFFFFFF FFFFFFFF FFFF") ≡ Err (at ValueTooWide 99)
  -- 2 ^ 64 - 1 operands
  operands_without_end : blocks usual (hex "4243C0DE 210C0000 03000000 FAFFFFFF FFFFFFFF FFFF0300") ≡ Err (at AbbrevEncoding 180)

claims : Claims
unfolding fixed vbr char6 align32 byte kind valued operand operands definition value_count unabbreviated scalar values_of abbreviated block_id new_width block_head end_of_block define by_definition entry describe record_after nested item_after item block top_block version offset wrapper any_bits wrapper_and_gap inner_magic top_blocks stream wrapped input outer_wrapper reading_input
claims = record { values = refl; operands_in_17_chunks = refl; operands_without_end = refl }

-- bits, repeated
abbrev again : ℕ → List Bool → List Bool
again zero bits = []
again (suc count) bits = bits ++ again count bits

-- bits as bytes
abbrev packed : ℕ → List Bool → List ℕ
packed zero bits = []
packed (suc count) bits = number (take 8 bits) ∷ packed count (drop 8 bits)

-- 1,180 bytes: a block 8 with ids of three bits, with a definition of 1,001 literals of value 0, which is used several times
abbrev literals_used : ℕ → List ℕ
literals_used uses = hex "4243C0DE 210C0000 24010000" ++ packed 1168 (bits_of 3 2 ++ shortest 5 1001 ++ again 1001 (true ∷ bits_of 8 0) ++ again uses (bits_of 3 4) ++ replicate 32 false)

-- records with a thousand zeros each
abbrev thousands : ℕ → Forest
thousands zero = empty
thousands (suc count) = a_record 0 (replicate 1000 0) (thousands count)

record Bombs : Type 0 where
  -- Its normal form of 75,264 bytes takes too many steps here: the tests of bit_norm have it.
  uses_100 : blocks (with_values 100000) (literals_used 100) ≡ Ok (a_block 8 (thousands 100) empty)
  uses_101 : blocks (with_values 100000) (literals_used 101) ≡ Err (at TooManyValues 9423)

bombs : Bombs
unfolding fixed vbr char6 align32 byte kind valued operand operands definition value_count unabbreviated scalar values_of abbreviated block_id new_width block_head end_of_block define by_definition entry describe record_after nested item_after item block top_block version offset wrapper any_bits wrapper_and_gap inner_magic top_blocks stream wrapped input outer_wrapper reading_input
bombs = record { uses_100 = refl; uses_101 = refl }
