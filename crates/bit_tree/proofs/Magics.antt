-- The number of a magic.
use Rattle.std.proofs.Common.{◌≡◌, ℕ, ◌+◌, ◌*◌, ◌<◌, List, [], ◌∷◌, length, get_or, arith}
use Rattle.std.specs.Int.{w32, from_le_bytes}
use Rattle.bit_grammar.specs.Bits.{bits_of, bits_of_bytes}
use Rattle.bit_grammar.proofs.Bits.Numbers.{number-append, number-bits_of, length-bits_of}
use Rattle.bit_fields.specs.Opening.{magic_number}

byte_first : (b : ℕ) (bytes : List ℕ) → b < 256 → magic_number (b ∷ bytes) ≡ b + 256 * magic_number bytes
byte_first b bytes h = rw (number-append (bits_of 8 b) (bits_of_bytes bytes), length-bits_of 8 b, number-bits_of 8 b h) (omega arith)

-- the number of a magic is that of its bytes, the lowest first
pub magic_is : (bytes : List ℕ) → length bytes ≡ 4 → ((k : ℕ) → get_or bytes k 0 < 256) → from_le_bytes w32 bytes ≡ magic_number bytes
magic_is [] n h = absurd (omega arith)
magic_is (a ∷ []) n h = absurd (omega arith)
magic_is (a ∷ b ∷ []) n h = absurd (omega arith)
magic_is (a ∷ b ∷ c ∷ []) n h = absurd (omega arith)
magic_is (a ∷ b ∷ c ∷ d ∷ []) n h =
    rw (byte_first a (b ∷ c ∷ d ∷ []) (h 0), byte_first b (c ∷ d ∷ []) (h 1), byte_first c (d ∷ []) (h 2), byte_first d [] (h 3)) (omega arith)
magic_is (a ∷ b ∷ c ∷ d ∷ e ∷ bytes) n h = absurd (omega arith)
