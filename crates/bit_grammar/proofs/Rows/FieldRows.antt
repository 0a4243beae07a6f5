-- Worked fields, each read at bit 32, after a magic.
use Rattle.std.proofs.Common.{ℕ, ◌≡◌, List, [], ◌∷◌, ◌++◌, length, drop, Result, Ok, Err, refl}
use Rattle.bit_grammar.specs.declared.reason.Reason.TheVariants.{Truncated, ValueTooWide}
use Rattle.bit_grammar.specs.Bits.{bits_of_bytes, bits_of}
use Rattle.bit_grammar.specs.Grammar.{Fault, at, Grammar, repeat, reading}
use Rattle.bit_grammar.specs.Fields.{fixed, vbr, char6, align32, byte}
use Rattle.bit_grammar.specs.FormatFields.{shortest}
use Rattle.bit_grammar.specs.Normal.{put, chain, padding}
use Rattle.bit_grammar.proofs.Rows.Hex.{hex, times}
use Rattle.bit_grammar.proofs.Readings.Readers.{made_by}

-- what a rule reads in these bytes after a magic: the value and the bit after it, or the fault
abbrev read : {A : Type 0} → Grammar A → List ℕ → Result (A × ℕ) Fault
read rule bytes = made_by (λ x. (x.0, x.1)) (reading rule 32 (drop 32 (bits_of_bytes (hex "4243C0DE" ++ bytes))))

record Fields : Type 0 where
  -- 63 chunks with one bit of payload each and a last one: the widest value
  widest : read (vbr 2) (times 15 (hex "FF") ++ hex "7F") ≡ Ok (18446744073709551615, 160)
  chunk_65 : read (vbr 2) (times 16 (hex "FF")) ≡ Err (at ValueTooWide 32)
  three_wide_chunks : read (vbr 32) (hex "00000080 00000080 03000000") ≡ Ok (13835058055282163712, 128)
  -- refuses: payload past 64 bits dropped
  place_64 : read (vbr 32) (hex "00000080 00000080 04000000") ≡ Err (at ValueTooWide 32)
  -- refuses: characters as the numbers 0 to 63
  one_character : read char6 (hex "3F00") ≡ Ok (95, 38)
  two_characters : read (repeat 2 char6) (hex "3F00") ≡ Ok (95 ∷ 97 ∷ [], 44)
  three_characters : read (repeat 3 char6) (hex "3F00") ≡ Err (at Truncated 44)

fields : Fields
unfolding fixed vbr char6 align32 byte
fields = record { widest = refl; chunk_65 = refl; three_wide_chunks = refl; place_64 = refl; one_character = refl; two_characters = refl; three_characters = refl }

record Written : Type 0 where
  -- 30 in chunks of four bits
  two_chunks : shortest 4 30 ≡ bits_of 4 0b1110 ++ bits_of 4 0b0011
  -- 32 in chunks of six bits, and padding after it
  length_of_32 : length (shortest 6 32) ≡ 12
  padded_32 : chain (put (shortest 6 32)) padding 0 ≡ bits_of_bytes (hex "60000000")

written : Written
written = record { two_chunks = refl; length_of_32 = refl; padded_32 = refl }
