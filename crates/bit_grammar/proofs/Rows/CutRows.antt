-- A worked input cut off after each of its bytes.
use Rattle.std.proofs.Common.{ℕ, ◌≡◌, List, [], ◌∷◌, map, take, replicate, Result, Ok, Err, refl}
use Rattle.bit_grammar.specs.declared.reason.Reason.TheVariants.{Truncated}
use Rattle.bit_grammar.specs.Grammar.{Fault, at}
use Rattle.bit_grammar.specs.Fields.{fixed, vbr, char6, align32, byte}
use Rattle.bit_grammar.specs.Definition.{kind, valued, operand, operands, definition}
use Rattle.bit_grammar.specs.Record.{value_count, unabbreviated, scalar, values_of, abbreviated}
use Rattle.bit_grammar.specs.Forest.{Forest, empty, a_block, a_record}
use Rattle.bit_grammar.specs.Blocks.{block_id, new_width, block_head, end_of_block, define, by_definition, entry, describe, record_after, nested, item_after, item, block, top_block}
use Rattle.bit_grammar.specs.Input.{version, offset, wrapper, any_bits, wrapper_and_gap, inner_magic, top_blocks, stream, wrapped, input, outer_wrapper}
use Rattle.bit_grammar.proofs.Rows.Hex.{hex}
use Rattle.bit_grammar.proofs.Rows.Worked.{usual, blocks}
use Rattle.bit_grammar.proofs.Readings.Readers.{reading_input}

-- the readings of the first bytes of a block 8 with a record of code 1 and the value 30, for each of these lengths
abbrev cut_at : List ℕ → List (Result Forest Fault)
cut_at counts = map (λ n. blocks usual (take n (hex "4243C0DE 21080000 01000000 07810700"))) counts

record Cuts : Type 0 where
  in_the_magic : cut_at (0 ∷ 1 ∷ 2 ∷ 3 ∷ []) ≡ replicate 4 (Err (at Truncated 0))
  after_the_magic : cut_at (4 ∷ []) ≡ Ok empty ∷ []
  in_the_block_id : cut_at (5 ∷ []) ≡ Err (at Truncated 34) ∷ []
  in_the_padding : cut_at (6 ∷ 7 ∷ []) ≡ replicate 2 (Err (at Truncated 46))
  in_the_length : cut_at (8 ∷ 9 ∷ 10 ∷ 11 ∷ []) ≡ replicate 4 (Err (at Truncated 64))
  before_an_id : cut_at (12 ∷ []) ≡ Err (at Truncated 96) ∷ []
  -- the code is complete after 13 bytes, and no bit of the number of values is there
  before_the_count : cut_at (13 ∷ []) ≡ Err (at Truncated 104) ∷ []
  in_the_value : cut_at (14 ∷ []) ≡ Err (at Truncated 110) ∷ []
  in_the_last_padding : cut_at (15 ∷ []) ≡ Err (at Truncated 118) ∷ []
  whole : cut_at (16 ∷ []) ≡ Ok (a_block 8 (a_record 1 (30 ∷ []) empty) empty) ∷ []

cuts : Cuts
unfolding fixed vbr char6 align32 byte kind valued operand operands definition value_count unabbreviated scalar values_of abbreviated block_id new_width block_head end_of_block define by_definition entry describe record_after nested item_after item block top_block version offset wrapper any_bits wrapper_and_gap inner_magic top_blocks stream wrapped input outer_wrapper reading_input
cuts = record { in_the_magic = refl; after_the_magic = refl; in_the_block_id = refl; in_the_padding = refl; in_the_length = refl; before_an_id = refl; before_the_count = refl; in_the_value = refl; in_the_last_padding = refl; whole = refl }
