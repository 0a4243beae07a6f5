-- Bits that are held in memory, in bytes.
use Rattle.std.specs.Prelude.{◌≡◌, ℕ, ◌+◌, ◌*◌, ◌<◌, ◌≤◌, Bool, List, [], ◌∷◌, ◌++◌, length, take, drop}
use Rattle.std.specs.Global.{Vec}
use Rattle.bit_grammar.specs.Bits.{bits_of, bits_of_bytes}
use Rattle.bit_fields.specs.Pens.{HoldBits}

-- the bits of chunks of bytes
abbrev pub bits_of_chunks : List (Vec ℕ) → List Bool
bits_of_chunks [] = []
bits_of_chunks (chunk ∷ chunks) = bits_of_bytes chunk.items ++ bits_of_chunks chunks

-- each chunk is full
abbrev pub AreFull : List (Vec ℕ) → Type 0
AreFull [] = Unit {0}
AreFull (chunk ∷ chunks) = (length chunk.items ≡ 1048576) × AreFull chunks

-- the bits of full chunks, and of a last one up to a position
abbrev pub text_of : List (Vec ℕ) → List ℕ → ℕ → List Bool
text_of full last at = bits_of_chunks full ++ take at (bits_of_bytes last)

-- full chunks, and a last one that holds bits up to a position
pub record IsText (full : List (Vec ℕ)) (last : List ℕ) (at : ℕ) : Type 0 where
  pub are_full : AreFull full
  pub few : length last ≤ 1081344
  pub there : at ≤ 8 * length last
  pub holds : 0 < length last → HoldBits last (take at (bits_of_bytes last))

-- a text with one word replaced
abbrev pub with_word : (place word : ℕ) → List Bool → List Bool
with_word place word text = take (32 * place) text
    ++ (bits_of 32 word ++ drop (32 * place + 32) text)
