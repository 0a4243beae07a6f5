-- Numbers in chunks of six bits, in the low 54 bits of a word: nine whole chunks.
use Rattle.std.specs.Prelude.{◌≡◌, ℕ, ◌+◌, ◌*◌, ◌/◌, ◌^◌, ◌-◌, ◌<◌, ◌≤◌, Bool, List, [], ◌++◌, length, take, drop, Ok}
use Rattle.bit_grammar.specs.Bits.{bits_of}
use Rattle.bit_grammar.specs.Grammar.{repeat, reading}
use Rattle.bit_grammar.specs.Fields.{vbr}
use Rattle.bit_grammar.specs.Normal.{values_bits}
use Rattle.bit_fields.specs.Buffered.{BufferedBits, Reads}
use Rattle.bit_fields.specs.Short.{EndsChunks}

-- the chunks of a word begin with this many numbers, which take this many bits, whatever follows the chunks
unfoldable pub Begins : (word count bits : ℕ) → Type 0
Begins word count bits = (first : ℕ) (rest : List Bool) → (values : List ℕ) × (length values ≡ count)
    × (reading (repeat count (vbr 6)) first (bits_of 54 word ++ rest)
    ≡ Ok (values, first + bits, drop bits (bits_of 54 word) ++ rest))

-- no whole number follows these bits in the chunks
unfoldable pub NoneFollows : (word bits : ℕ) → Type 0
NoneFollows word bits = (chunks : ℕ) → bits + 6 * chunks ≤ 54 → EndsChunks 5 chunks (word / 2 ^ bits) → ⊥

-- numbers that these bits of a word spell are each in their shortest spelling
unfoldable pub Shortest : (word bits : ℕ) → Type 0
Shortest word bits = (count first : ℕ) (values : List ℕ)
    → reading (repeat count (vbr 6)) first (take bits (bits_of 54 word)) ≡ Ok (values, first + bits, [])
    → values_bits values ≡ take bits (bits_of 54 word)

-- Numbers were taken from buffered bits, each in its shortest spelling.
pub record TakesShortest (many : ℕ) (old new : BufferedBits) : Type 0 where
  pub values : List ℕ
  pub count : length values ≡ many
  pub reads : Reads (repeat many (vbr 6)) old values new
  pub spelled : old.bits ≡ values_bits values ++ new.bits

-- a number in chunks of six bits that was read from this many bits is in its shortest spelling: it needs its last chunk
abbrev pub NeedsAll : (value bits : ℕ) → Type 0
NeedsAll value bits = 6 < bits → 2 ^ (5 * (bits / 6 - 1)) ≤ value

-- two numbers in chunks of six bits come next, the second is this one
abbrev pub HasCount : BufferedBits → ℕ → Type 0
HasCount a count = (code : ℕ) × (b c : BufferedBits) × Reads (vbr 6) a code b × Reads (vbr 6) b count c
