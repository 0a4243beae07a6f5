-- Bits that are stored into bytes at a position.
use Rattle.std.specs.Prelude.{◌≡◌, ℕ, ◌+◌, ◌-◌, ◌*◌, ◌%◌, ◌^◌, ◌<◌, ◌≤◌, Bool, false, List, ◌++◌, length, replicate}
use Rattle.bit_grammar.specs.Bits.{bits_of, bits_of_bytes}
use Rattle.bit_grammar.specs.Grammar.{repeat}
use Rattle.bit_grammar.specs.Fields.{vbr}
use Rattle.bit_grammar.specs.Normal.{entry_text, values_bits}
use Rattle.bit_grammar.specs.Record.{unabbreviated}
use Rattle.bit_fields.specs.Buffered.{BufferedBits, Reads, beyond}

-- bytes begin with these bits
abbrev pub BeginWith : List ℕ → List Bool → Type 0
BeginWith bytes bits = (rest : List Bool) × (bits_of_bytes bytes ≡ bits ++ rest)

-- bytes begin with these bits, and the byte that has the next bit has zeros from there on
abbrev pub HoldBits : List ℕ → List Bool → Type 0
HoldBits bytes bits = (rest : List Bool)
    × (bits_of_bytes bytes ≡ bits ++ (replicate (8 - length bits % 8) false ++ rest))

-- Bits were stored at a position, behind whatever bits the bytes held before it.
pub record Puts (more : List Bool) (at : ℕ) (old : List ℕ) (after : ℕ) (new : List ℕ) : Type 0 where
  pub same : length new ≡ length old
  pub ends : after ≡ at + length more
  pub holds : (bits : List Bool) → length bits ≡ at → HoldBits old bits → HoldBits new (bits ++ more)

-- One or two chunks of six bits, as a number and how many bits they have.
abbrev pub AreShort : ℕ × ℕ → Type 0
AreShort chunks = (chunks.0 < 2 ^ chunks.1) × (chunks.1 ≤ 12)

-- Whatever bits the bytes held before a position are still there.
pub record KeepsFront (at : ℕ) (old new : List ℕ) : Type 0 where
  pub same : length new ≡ length old
  pub front : (bits : List Bool) → length bits ≡ at → HoldBits old bits → BeginWith new bits

-- What was stored from a position on is dropped.
pub record TakesBack (at : ℕ) (old new : List ℕ) : Type 0 where
  pub same : length new ≡ length old
  pub holds : (bits : List Bool) → length bits ≡ at → BeginWith old bits → HoldBits new bits

-- The end of a text was lent: these bytes hold its bits, with room for so many bits more.
pub record LendsEnd (room : ℕ) (old : List Bool) (bytes : List ℕ) (at : ℕ) (new : List Bool) : Type 0 where
  pub held : List Bool
  pub is : old ≡ new ++ held
  pub ends : at ≡ length held
  pub holds : HoldBits bytes held
  pub space : at + room + 64 ≤ 8 * length bytes
  pub few : length bytes ≤ 1081344

-- ---- numbers of buffered bits

-- A number in chunks of n bits comes first in buffered bits. So many bits are behind it, if it has more than 57 bits.
pub record TakesNumber (n more : ℕ) (a : BufferedBits) (value : ℕ) (b : BufferedBits) : Type 0 where
  pub len : ℕ
  pub there : len ≤ length a.bits
  pub is : b ≡ beyond a len
  pub reads : Reads (vbr n) a value b
  pub near : 57 < len → more ≤ length b.bits

-- This many numbers in chunks of six bits come first in buffered bits, each in its shortest spelling, which is these low bits of a word.
pub record HasWord (count : ℕ) (a : BufferedBits) (word len : ℕ) : Type 0 where
  pub values : List ℕ
  pub many : length values ≡ count
  pub there : len ≤ length a.bits
  pub few : len ≤ 54
  pub below : word < 2 ^ len
  pub reads : Reads (repeat count (vbr 6)) a values (beyond a len)
  pub spelled : bits_of len word ≡ values_bits values

-- This many numbers in chunks of six bits come first in buffered bits, and were stored at a position, each in its shortest spelling.
-- Behind them 64 bits are there, if there are any numbers.
pub record WritesSixes (count : ℕ) (a : BufferedBits) (at : ℕ) (old : List ℕ) (after : ℕ) (b : BufferedBits) (new : List ℕ) : Type 0 where
  pub values : List ℕ
  pub many : length values ≡ count
  pub len : ℕ
  pub there : len ≤ length a.bits
  pub is : b ≡ beyond a len
  pub reads : Reads (repeat count (vbr 6)) a values b
  pub puts : Puts (values_bits values) at old after new
  pub more : 0 < count → 64 ≤ length b.bits

-- These values are the numbers in chunks of six bits that come first in buffered bits.
pub record ReadsSixes (values : List ℕ) (a b : BufferedBits) : Type 0 where
  pub len : ℕ
  pub there : len ≤ length a.bits
  pub is : b ≡ beyond a len
  pub reads : Reads (repeat (length values) (vbr 6)) a values b

-- A record that is not abbreviated comes first in buffered bits, after its abbreviation id. These bits spell it in a normal form,
-- with its id.
pub record TakesPlain (room count : ℕ) (a : BufferedBits) (spelling : List Bool) (b : BufferedBits) : Type 0 where
  pub code : ℕ
  pub values : List ℕ
  pub many : length values ≡ count
  pub len : ℕ
  pub there : len ≤ length a.bits
  pub is : b ≡ beyond a len
  pub reads : Reads (unabbreviated room) a (record { code = code; values = values }) b
  pub spelled : spelling ≡ bits_of 2 3 ++ entry_text code values

-- the same, and these bits were stored at a position; 64 bits are there behind the record
pub record WritesPlain (room count : ℕ) (a : BufferedBits) (at : ℕ) (old : List ℕ) (after : ℕ) (b : BufferedBits) (new : List ℕ) : Type 0 where
  pub spelling : List Bool
  pub takes : TakesPlain room count a spelling b
  pub puts : Puts spelling at old after new
  pub more : 64 ≤ length b.bits
