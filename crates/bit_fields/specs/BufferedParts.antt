-- Buffered bits that a reader lends.
use Rattle.std.specs.Prelude.{◌≡◌, ◌+◌, ◌*◌, ◌^◌, ◌<◌, ◌≤◌, ◌++◌, length, Result, Ok, Err}
use Rattle.bit_grammar.specs.Bits.{bits_of, bits_of_bytes}
use Rattle.bit_grammar.specs.Grammar.{gives}
use Rattle.bit_fields.specs.declared.fault.Fault.{Fault}
use Rattle.bit_fields.specs.declared.buffered.BufferedParts.{BufferedParts}
use Rattle.bit_fields.specs.Reader.{Reader, Why}
use Rattle.bit_fields.specs.Short.{TookNothing}
use Rattle.bit_fields.specs.Buffered.{BufferedBits, Sees}

-- the bits that were lent
abbrev pub bits_of_parts : BufferedParts → BufferedBits
bits_of_parts s = record {
  position = s.position;
  bits = bits_of s.held s.word ++ bits_of_bytes s.bytes.now;
}

-- what is true of all that a reader lends
pub record AreParts (s : BufferedParts) : Type 0 where
  pub most : s.held ≤ 64
  pub below : s.word < 2 ^ s.held
  pub fits : s.position + (s.held + 8 * length s.bytes.now) < 2 ^ 64

-- nothing was taken, and these parts were lent
pub record Shown (old : Reader) (buffered_parts : BufferedParts) (new : Reader) : Type 0 where
  pub nothing : TookNothing old new
  pub stays : new.position ≡ old.position
  pub sees : Sees old (bits_of_parts buffered_parts)

-- the effect of asking a reader for buffered bits
abbrev pub LendsParts : Reader → Result BufferedParts Fault → Reader → Type 0
LendsParts old (Ok buffered_parts) new = Shown old buffered_parts new
LendsParts old (Err fault) new = Why (gives (tt {0})) old fault new
