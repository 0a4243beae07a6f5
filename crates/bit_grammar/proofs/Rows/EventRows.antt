-- Worked inputs as lists of events.
use Rattle.std.proofs.Common.{◌≡◌, List, [], ◌∷◌, ◌++◌, None, Ok, Err, refl}
use Rattle.bit_grammar.specs.declared.op.Op.TheVariants.{Literal, Fixed}
use Rattle.bit_grammar.specs.declared.reason.Reason.TheVariants.{AbbrevWidth, BlockLength, TooLong, TopLevel, Truncated}
use Rattle.bit_grammar.specs.Grammar.{at}
use Rattle.bit_grammar.specs.Fields.{fixed, vbr, char6, align32, byte}
use Rattle.bit_grammar.specs.Definition.{kind, valued, operand, operands, definition}
use Rattle.bit_grammar.specs.Record.{value_count, unabbreviated, scalar, values_of, abbreviated}
use Rattle.bit_grammar.specs.Blocks.{block_id, new_width, block_head, end_of_block, define, by_definition, entry, describe, record_after}
use Rattle.bit_grammar.specs.Input.{version, offset, wrapper, any_bits, wrapper_and_gap, inner_magic, outer_wrapper}
use Rattle.bit_grammar.specs.Machine.{Event, enters, defines, notes, leaves, open_block, open_nested, step_after, step_in, step_top, Ending, accepted, broke, to_come}
use Rattle.bit_grammar.specs.Outlook.{Outlook, outlook}
use Rattle.bit_grammar.proofs.Rows.Hex.{hex}
use Rattle.bit_grammar.proofs.Rows.Worked.{usual, with_bytes}

-- the head of a bare stream with the magic 42 43 C0 DE, these events, and their end
abbrev told : List Event → Ending → Outlook
told events end = Ok (record { magic = 0xDEC04342; wrapper = None }, (events, end))

-- a BLOCKINFO block that gives block 8 the definition [Literal 1, Fixed 7]
abbrev of_info : List Event
of_info =
    enters (record { id = 0; width = 2; first = 32; body = 96 })
    ∷ notes (record { abbreviation = 3; code = 1; values = 8 ∷ []; first = 96; after = 116 })
    ∷ defines (record { ops = Literal 1 ∷ Fixed 7 ∷ []; first = 116; after = 141 })
    ∷ leaves 160
    ∷ []

-- a block 8 that uses it for the value 100
abbrev of_use : List Event
of_use =
    enters (record { id = 8; width = 3; first = 160; body = 224 })
    ∷ notes (record { abbreviation = 4; code = 1; values = 100 ∷ []; first = 224; after = 234 })
    ∷ leaves 256
    ∷ []

-- a block 8 of width 2 begins, at the first bit after the magic
abbrev enters_8 : Event
enters_8 = enters (record { id = 8; width = 2; first = 32; body = 96 })

record Events : Type 0 where
  info_and_use : outlook usual (hex "4243C0DE 01080000 02000000 0701A218 20070000 210C0000 01000000 24030000") ≡ told (of_info ++ of_use) (accepted 256)
  newlines_behind : outlook usual (hex "4243C0DE 21080000 01000000 00000000 0A0A0A0A") ≡ told (enters_8 ∷ leaves 128 ∷ []) (broke (at TopLevel 128))
  newlines_past_limit : outlook (with_bytes 16) (hex "4243C0DE 21080000 01000000 00000000 0A0A0A0A") ≡ told (enters_8 ∷ leaves 128 ∷ []) (broke (at TooLong 128))
  -- a length is judged at the block's end, so the block has begun
  wrong_length : outlook usual (hex "4243C0DE 21080000 02000000 00000000") ≡ told (enters_8 ∷ []) (broke (at BlockLength 64))
  -- a block whose width breaks has not begun
  width_0 : outlook usual (hex "4243C0DE 21000000") ≡ told [] (broke (at AbbrevWidth 42))
  no_head : outlook usual (hex "4243C0") ≡ Err (at Truncated 0)

events : Events
unfolding fixed vbr char6 align32 byte kind valued operand operands definition value_count unabbreviated scalar values_of abbreviated block_id new_width block_head end_of_block define by_definition entry describe record_after version offset wrapper any_bits wrapper_and_gap inner_magic outer_wrapper open_block open_nested step_after step_in step_top to_come outlook
events = record { info_and_use = refl; newlines_behind = refl; newlines_past_limit = refl; wrong_length = refl; width_0 = refl; no_head = refl }
