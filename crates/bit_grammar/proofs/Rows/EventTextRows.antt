-- The lines of the events of worked inputs, computed.
use Rattle.std.proofs.Common.{◌≡◌, ℕ, List, [], ◌∷◌, ◌++◌, take, refl}
use Rattle.std.specs.Prelude.{codes}
use Rattle.std.specs.Fmt.{digits}
use Rattle.bit_grammar.specs.declared.reason.Reason.TheVariants.{BlockLength, Truncated}
use Rattle.bit_grammar.specs.declared.value_display.ValueDisplay.{ValueDisplay}
use Rattle.bit_grammar.specs.declared.value_display.ValueDisplay.TheVariants.{Shown, LeftOut}
use Rattle.bit_grammar.specs.Grammar.{at}
use Rattle.bit_grammar.specs.Fields.{fixed, vbr, char6, align32, byte}
use Rattle.bit_grammar.specs.Definition.{kind, valued, operand, operands, definition}
use Rattle.bit_grammar.specs.Record.{value_count, unabbreviated, scalar, values_of, abbreviated}
use Rattle.bit_grammar.specs.Blocks.{block_id, new_width, block_head, end_of_block, define, by_definition, entry, describe, record_after}
use Rattle.bit_grammar.specs.EventTexts.{outlook_text, outlook_end}
use Rattle.bit_grammar.specs.Input.{version, offset, wrapper, any_bits, wrapper_and_gap, inner_magic, outer_wrapper}
use Rattle.bit_grammar.specs.Machine.{open_block, open_nested, step_after, step_in, step_top, Ending, accepted, broke, to_come}
use Rattle.bit_grammar.specs.Outlook.{outlook}
use Rattle.bit_grammar.proofs.Rows.Hex.{hex}
use Rattle.bit_grammar.proofs.Rows.Worked.{usual}

-- the text of the outlook of bytes, and its end
abbrev text_of : ValueDisplay → List ℕ → List ℕ × Ending
text_of values bytes = (outlook_text values (outlook usual bytes), outlook_end (outlook usual bytes))

-- a BLOCKINFO block that gives block 8 the definition [Literal 1, Fixed 7], and a block 8 that uses it
abbrev info_and_use : List ℕ
info_and_use = hex "4243C0DE 01080000 02000000 0701A218 20070000 210C0000 01000000 24030000"

-- two definitions with each kind of operand, and records by them, with a block between
abbrev kinds : List ℕ
kinds = hex "4243C0DE 21100000 0A000000 5206C821 632823AB 002A918B 0108FE48 10000000 01000000 1F000000 95090000 FF000000 00000000"

-- an empty block in a wrapper, and bytes after it
abbrev wrapped : List ℕ
wrapped = hex "DEC0170B 00000000 14000000 10000000 07000001 4243C0DE 21080000 01000000 00000000 00000000"

record EventLines : Type 0 where
  shown : text_of Shown info_and_use ≡ (codes "0 magic 4243c0de" ++ 10 ∷ codes "32 block 0 width 2 body 96" ++ 10 ∷ codes "96   record 1 by 3 count 1 8" ++ 10 ∷ codes "116   define literal 1, fixed 7" ++ 10 ∷ codes "160 end" ++ 10 ∷ codes "160 block 8 width 3 body 224" ++ 10 ∷ codes "224   record 1 by 4 count 1 100" ++ 10 ∷ codes "256 end" ++ 10 ∷ [], accepted 256)
  left_out : text_of LeftOut info_and_use ≡ (codes "0 magic 4243c0de" ++ 10 ∷ codes "32 block 0 width 2 body 96" ++ 10 ∷ codes "96   record 1 by 3 count 1" ++ 10 ∷ codes "116   define literal 1, fixed 7" ++ 10 ∷ codes "160 end" ++ 10 ∷ codes "160 block 8 width 3 body 224" ++ 10 ∷ codes "224   record 1 by 4 count 1" ++ 10 ∷ codes "256 end" ++ 10 ∷ [], accepted 256)
  each_operand : text_of Shown kinds ≡ (codes "0 magic 4243c0de" ++ 10 ∷ codes "32 block 8 width 4 body 96" ++ 10 ∷ codes "96   define literal 1, fixed 7, vbr 6, array, char6" ++ 10 ∷ codes "140   define literal 300, char6, blob" ++ 10 ∷ codes "174   record 1 by 4 count 5 100 5 97 98 95" ++ 10 ∷ codes "215   block 9 width 2 body 288" ++ 10 ∷ codes "288     record 7 by 3 count 0" ++ 10 ∷ codes "320   end" ++ 10 ∷ codes "320   record 300 by 5 count 3 122 255 0" ++ 10 ∷ codes "416 end" ++ 10 ∷ [], accepted 416)
  in_a_wrapper : text_of Shown wrapped ≡ (codes "160 magic 4243c0de" ++ 10 ∷ codes "192 block 8 width 2 body 256" ++ 10 ∷ codes "288 end" ++ 10 ∷ [], accepted 288)
  magic_alone : text_of Shown (hex "4243C0DE") ≡ (codes "0 magic 4243c0de" ++ 10 ∷ [], accepted 32)
  -- a length is judged at the block's end, so its beginning has a line and its end has none
  wrong_length : text_of Shown (hex "4243C0DE 21080000 02000000 00000000") ≡ (codes "0 magic 4243c0de" ++ 10 ∷ codes "32 block 8 width 2 body 96" ++ 10 ∷ [], broke (at BlockLength 64))
  cut_in_the_second_block : text_of Shown (take 26 info_and_use) ≡ (codes "0 magic 4243c0de" ++ 10 ∷ codes "32 block 0 width 2 body 96" ++ 10 ∷ codes "96   record 1 by 3 count 1 8" ++ 10 ∷ codes "116   define literal 1, fixed 7" ++ 10 ∷ codes "160 end" ++ 10 ∷ [], broke (at Truncated 192))
  cut_in_the_magic : text_of Shown (take 3 info_and_use) ≡ ([], broke (at Truncated 0))

event_lines : EventLines
unfolding fixed vbr char6 align32 byte kind valued operand operands definition value_count unabbreviated scalar values_of abbreviated block_id new_width block_head end_of_block define by_definition entry describe record_after version offset wrapper any_bits wrapper_and_gap inner_magic outer_wrapper open_block open_nested step_after step_in step_top to_come outlook digits
event_lines = record { shown = refl; left_out = refl; each_operand = refl; in_a_wrapper = refl; magic_alone = refl; wrong_length = refl; cut_in_the_second_block = refl; cut_in_the_magic = refl }
