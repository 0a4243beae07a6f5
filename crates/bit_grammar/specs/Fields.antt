-- The fields: numbers of fixed width, VBRs, characters and padding.
-- Source: "LLVM Bitcode File Format", "Primitives": "Fixed Width Integers", "Variable Width Integers", "6-bit
-- characters", "Word Alignment". This project's own: the bounds of a VBR, and the faults.
use Rattle.std.specs.Prelude.{ℕ, zero, suc, ◌+◌, ◌-◌, ◌*◌, ◌%◌, ◌^◌, Bool, false, List, take, get_or, nat_lt, ◌==◌}
use Rattle.bit_grammar.specs.declared.reason.Reason.TheVariants.{Truncated, ValueTooWide, DirtyPadding}
use Rattle.bit_grammar.specs.Bits.{number}
use Rattle.bit_grammar.specs.Grammar.{at, Grammar, gives, refuses, position, next_bits, choose, ◌>>=◌, ◌>>◌, judge}
use Rattle.bit_grammar.specs.Terms.{chunk_limit, character}

-- the next n bits; if fewer are left, the field that begins at `first` is truncated
abbrev pub next_of : ℕ → ℕ → Grammar (List Bool)
next_of first n = next_bits n (at Truncated first)

-- a number of n bits
unfoldable pub fixed : ℕ → Grammar ℕ
fixed n = do
  first ← position
  s ← next_of first n
  gives (number s)

-- the chunks of a VBR that began at `first`, each with `payload` bits and a continuation bit; `permitted` more chunks are allowed,
-- and `places` bits are left in the value
abbrev pub chunks : (payload : ℕ) → (first : ℕ) → (permitted places : ℕ) → Grammar ℕ
chunks payload first zero places = refuses (at ValueTooWide first)
chunks payload first (suc permitted) places = do
  chunk ← next_of first (suc payload)
  judge (nat_lt (number (take payload chunk)) (2 ^ places)) ValueTooWide first
  choose (get_or chunk payload false) (chunks payload first permitted (places - payload) >>= λ high.
      gives (number (take payload chunk) + 2 ^ payload * high))
      (gives (number (take payload chunk)))

-- a number in chunks of n bits; of width 0 it takes no bits
unfoldable pub vbr : ℕ → Grammar ℕ
vbr zero = gives 0
vbr (suc payload) = position >>= λ first. chunks payload first (chunk_limit payload) 64

unfoldable pub char6 : Grammar ℕ
char6 = do
  c ← fixed 6
  gives (character c)

-- zero bits of a padding that began at `first`
abbrev pub zeros : (first : ℕ) → ℕ → Grammar (Unit {0})
zeros first zero = gives tt
zeros first (suc count) = do
  bit ← position
  s ← next_of first 1
  judge (number s == 0) DirtyPadding bit
  zeros first count

-- how many bits there are from a position to the next multiple of 32
abbrev pub padding_length : ℕ → ℕ
padding_length p = (32 - p % 32) % 32

unfoldable pub align32 : Grammar (Unit {0})
align32 = position >>= λ first. zeros first (padding_length first)

unfoldable pub byte : Grammar ℕ
byte = fixed 8
