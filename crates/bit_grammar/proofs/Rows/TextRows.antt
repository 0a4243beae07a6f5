-- Reports and listings of worked inputs, computed.
use Rattle.std.proofs.Common.{◌≡◌, ℕ, List, [], ◌∷◌, ◌++◌, Result, Ok, Err, refl}
use Rattle.std.specs.Prelude.{codes}
use Rattle.std.specs.Fmt.{digits}
use Rattle.bit_grammar.specs.declared.reason.Reason.TheVariants.{BlockLength}
use Rattle.bit_grammar.specs.Grammar.{Fault, at}
use Rattle.bit_grammar.specs.Fields.{fixed, vbr, char6, align32, byte}
use Rattle.bit_grammar.specs.Definition.{kind, valued, operand, operands, definition}
use Rattle.bit_grammar.specs.Record.{value_count, unabbreviated, scalar, values_of, abbreviated}
use Rattle.bit_grammar.specs.Blocks.{block_id, new_width, block_head, end_of_block, define, by_definition, entry, describe, record_after, nested, item_after, item, block, top_block}
use Rattle.bit_grammar.specs.Input.{version, offset, wrapper, any_bits, wrapper_and_gap, inner_magic, tree_of, top_blocks, stream, wrapped, input, outer_wrapper}
use Rattle.bit_grammar.specs.Terms.{Marked}
use Rattle.bit_grammar.specs.Tally.{tally_of}
use Rattle.bit_grammar.specs.Texts.{report_of, listing_of}
use Rattle.bit_grammar.proofs.Rows.Hex.{hex}
use Rattle.bit_grammar.proofs.Rows.Worked.{usual}
use Rattle.bit_grammar.proofs.Readings.Readers.{reading_input}

-- the report of what is read, or the fault
abbrev reported : Result Marked Fault → Result (List ℕ) Fault
reported (Ok m) = Ok (report_of (tally_of m))
reported (Err fault) = Err fault

-- the listing of what is read, or the fault
abbrev listed : Result Marked Fault → Result (List ℕ) Fault
listed (Ok m) = Ok (listing_of (tree_of m))
listed (Err fault) = Err fault

record Reports : Type 0 where
  -- a BLOCKINFO block with a definition, and a block with a record by it
  report_of_two_blocks : reported (reading_input usual (hex "42 43 C0 DE 01 08 00 00 02 00 00 00 07 01 A2 18 20 07 00 00 21 0C 00 00 01 00 00 00 24 03 00 00")) ≡ Ok (codes "magic 4243c0de bits 256" ++ 10 ∷ codes "block 0 count 1 bits 128 definitions 1 records 1 abbreviated 0 values 1" ++ 10 ∷ codes "  record 1 count 1 bits 20" ++ 10 ∷ codes "block 8 count 1 bits 96 definitions 0 records 1 abbreviated 1 values 1" ++ 10 ∷ codes "  record 1 count 1 bits 10" ++ 10 ∷ [])
  -- a block in a block
  report_of_nested : reported (reading_input usual (hex "42 43 C0 DE 21 04 00 00 04 00 00 00 13 04 00 00 01 00 00 00 00 00 00 00 00 00 00 00")) ≡ Ok (codes "magic 4243c0de bits 224" ++ 10 ∷ codes "block 8 count 1 bits 96 definitions 0 records 0 abbreviated 0 values 0" ++ 10 ∷ codes "block 9 count 1 bits 96 definitions 0 records 0 abbreviated 0 values 0" ++ 10 ∷ [])
  -- no blocks
  report_of_magic : reported (reading_input usual (hex "42 43 C0 DE")) ≡ Ok (codes "magic 4243c0de bits 32" ++ 10 ∷ [])
  -- an array of three fields that take no bits
  report_of_no_width : reported (reading_input usual (hex "42 43 C0 DE 21 0C 00 00 02 00 00 00 1A 03 4C 00 07 00 00 00")) ≡ Ok (codes "magic 4243c0de bits 160" ++ 10 ∷ codes "block 8 count 1 bits 128 definitions 1 records 1 abbreviated 1 values 3" ++ 10 ∷ codes "  record 1 count 1 bits 9" ++ 10 ∷ [])
  -- in a wrapper, with bytes after the stream
  report_of_wrapped : reported (reading_input usual (hex "DE C0 17 0B 00 00 00 00 14 00 00 00 10 00 00 00 07 00 00 01 42 43 C0 DE 21 08 00 00 01 00 00 00 00 00 00 00 00 00 00 00 00 00 00 00 00 00 00 00")) ≡ Ok (codes "magic 4243c0de bits 128" ++ 10 ∷ codes "block 8 count 1 bits 96 definitions 0 records 0 abbreviated 0 values 0" ++ 10 ∷ [])
  -- rows in the order of first entry, codes in the order of first use, also with a block with the same id between
  report_of_order : reported (reading_input usual (hex "44 49 41 0F 21 0C 00 00 09 00 00 00 3B 02 2F 08 04 00 00 00 02 00 00 00 53 00 73 08 81 00 00 00 33 80 24 08 01 00 00 00 07 00 00 00 2B 00 00 00 29 08 00 00 04 00 00 00 B3 49 F0 FF FF FF FF FF FF FF FF FF 00 00 00 00 21 08 00 00 01 00 00 00 0B 00 00 00")) ≡ Ok (codes "magic 4449410f bits 672" ++ 10 ∷ codes "block 8 count 3 bits 367 definitions 0 records 6 abbreviated 0 values 3" ++ 10 ∷ codes "  record 7 count 2 bits 49" ++ 10 ∷ codes "  record 5 count 2 bits 31" ++ 10 ∷ codes "  record 6 count 1 bits 15" ++ 10 ∷ codes "  record 2 count 1 bits 14" ++ 10 ∷ codes "block 9 count 1 bits 81 definitions 0 records 1 abbreviated 0 values 0" ++ 10 ∷ codes "  record 1 count 1 bits 14" ++ 10 ∷ codes "block 10 count 1 bits 192 definitions 0 records 1 abbreviated 0 values 1" ++ 10 ∷ codes "  record 300 count 1 bits 98" ++ 10 ∷ [])

reports : Reports
unfolding fixed vbr char6 align32 byte kind valued operand operands definition value_count unabbreviated scalar values_of abbreviated block_id new_width block_head end_of_block define by_definition entry describe record_after nested item_after item block top_block version offset wrapper any_bits wrapper_and_gap inner_magic top_blocks stream wrapped input outer_wrapper reading_input digits
reports = record { report_of_two_blocks = refl; report_of_nested = refl; report_of_magic = refl; report_of_no_width = refl; report_of_wrapped = refl; report_of_order = refl }

record Listings : Type 0 where
  listing_of_two_blocks : listed (reading_input usual (hex "42 43 C0 DE 01 08 00 00 02 00 00 00 07 01 A2 18 20 07 00 00 21 0C 00 00 01 00 00 00 24 03 00 00")) ≡ Ok (codes "magic 4243c0de" ++ 10 ∷ codes "block 0" ++ 10 ∷ codes "  record 1 8" ++ 10 ∷ codes "block 8" ++ 10 ∷ codes "  record 1 100" ++ 10 ∷ [])
  listing_of_nested : listed (reading_input usual (hex "42 43 C0 DE 21 04 00 00 04 00 00 00 13 04 00 00 01 00 00 00 00 00 00 00 00 00 00 00")) ≡ Ok (codes "magic 4243c0de" ++ 10 ∷ codes "block 8" ++ 10 ∷ codes "  block 9" ++ 10 ∷ [])
  listing_of_magic : listed (reading_input usual (hex "42 43 C0 DE")) ≡ Ok (codes "magic 4243c0de" ++ 10 ∷ [])
  listing_of_no_width : listed (reading_input usual (hex "42 43 C0 DE 21 0C 00 00 02 00 00 00 1A 03 4C 00 07 00 00 00")) ≡ Ok (codes "magic 4243c0de" ++ 10 ∷ codes "block 8" ++ 10 ∷ codes "  record 1 0 0 0" ++ 10 ∷ [])
  -- a wrong length
  no_report : reported (reading_input usual (hex "42 43 C0 DE 21 08 00 00 02 00 00 00 00 00 00 00")) ≡ Err (at BlockLength 64)
  no_listing : listed (reading_input usual (hex "42 43 C0 DE 21 08 00 00 02 00 00 00 00 00 00 00")) ≡ Err (at BlockLength 64)
  listing_of_order : listed (reading_input usual (hex "44 49 41 0F 21 0C 00 00 09 00 00 00 3B 02 2F 08 04 00 00 00 02 00 00 00 53 00 73 08 81 00 00 00 33 80 24 08 01 00 00 00 07 00 00 00 2B 00 00 00 29 08 00 00 04 00 00 00 B3 49 F0 FF FF FF FF FF FF FF FF FF 00 00 00 00 21 08 00 00 01 00 00 00 0B 00 00 00")) ≡ Ok (codes "magic 4449410f" ++ 10 ∷ codes "block 8" ++ 10 ∷ codes "  record 7 30" ++ 10 ∷ codes "  block 8" ++ 10 ∷ codes "    record 5" ++ 10 ∷ codes "    record 7 1 2" ++ 10 ∷ codes "  record 6" ++ 10 ∷ codes "  block 9" ++ 10 ∷ codes "    record 1" ++ 10 ∷ codes "  record 5" ++ 10 ∷ codes "block 10" ++ 10 ∷ codes "  record 300 18446744073709551615" ++ 10 ∷ codes "block 8" ++ 10 ∷ codes "  record 2" ++ 10 ∷ [])

listings : Listings
unfolding fixed vbr char6 align32 byte kind valued operand operands definition value_count unabbreviated scalar values_of abbreviated block_id new_width block_head end_of_block define by_definition entry describe record_after nested item_after item block top_block version offset wrapper any_bits wrapper_and_gap inner_magic top_blocks stream wrapped input outer_wrapper reading_input digits
listings = record { listing_of_two_blocks = refl; listing_of_nested = refl; listing_of_magic = refl; listing_of_no_width = refl; no_report = refl; no_listing = refl; listing_of_order = refl }
